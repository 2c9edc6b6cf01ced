-- What is generated is a document.
use Rattle.std.specs.Prelude.{ℕ, ◌≤◌}
use Rattle.ds_plan.specs.Documents.{IsDocument}
use Rattle.ds_gen.specs.Generated.{generated}

-- for up to 1,000 messages, with which a script stays within its limit
abbrev pub AreDocuments : Type 0
AreDocuments = (n : ℕ) → n ≤ 1000 → IsDocument (generated n)
