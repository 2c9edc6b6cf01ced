-- Which hellos and frames have a spelling. What the types of the code keep by themselves stands in the Fits of each; what a
-- caller has to see to is the BodiesRange.
use Rattle.std.specs.Prelude.{ℕ, ◌<◌, ◌≤◌, ◌^◌, List, length}
use Rattle.std.specs.List.{All}
use Rattle.ds_frame.specs.Spelling.{OuterFrame, spelling_of_bodies}

-- the bytes of a certificate
pub record HelloFits (cert : List ℕ) : Type 0 where
  pub some : 1 ≤ length cert
  pub most : length cert ≤ 6860

pub record FrameSignatureFits (signature : List ℕ) : Type 0 where
  pub some : 1 ≤ length signature
  pub most : length signature ≤ 2508

pub record OuterFrameFits (o : OuterFrame) : Type 0 where
  pub number : o.number < 2 ^ 32
  pub first : 1 ≤ o.messages
  pub last : o.messages ≤ 16
  pub some : 1 ≤ length o.body
  pub most : length o.body ≤ 1155728
  pub signature : FrameSignatureFits o.signature

-- four bytes count each
abbrev pub AreCounted : List (List ℕ) → Type 0
AreCounted bodies = All (λ body. length body < 2 ^ 32) bodies

-- from 1 to 16 messages, whose bytes and counts together are at most 16 times 72,233
pub record BodiesRange (bodies : List (List ℕ)) : Type 0 where
  pub first : 1 ≤ length bodies
  pub last : length bodies ≤ 16
  pub most : length (spelling_of_bodies bodies) ≤ 1155728
