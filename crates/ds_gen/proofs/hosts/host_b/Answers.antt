use Rattle.std.proofs.Common.{◌≡◌, ◌∙◌, ◌∷◌, []}
use Rattle.std.specs.Prelude.{codes}
use Rattle.std.proofs.lemmas.Result.{IfOk-weaker}
use Rattle.ds_gen.specs.Generated.{host, host_b}
use Rattle.ds_gen.proofs.hosts.host_b.Goals as goal

pub returns : goal.returns
returns c =
    IfOk-weaker c.host.result
    (λ h. h ≡ host (codes "b") 2 (codes "127.0.0.1:7002") c.in_ok-rows_of.field-0 c.in_ok-takers.field-0 c.in_ok-boxes_in.field-0 c.new.result)
    (λ h. h ≡ host_b c.args.count)
    (λ h e. e ∙ (λ i. host (codes "b") 2 (codes "127.0.0.1:7002") (c.in_ok-rows_of.ensures i) (c.in_ok-takers.ensures i) (c.in_ok-boxes_in.ensures c.args.count i) (c.new.ensures i))
    ∙ (λ i. record (host_b c.args.count) { map = c.requires i ∷ [] }))
    c.host.ensures
