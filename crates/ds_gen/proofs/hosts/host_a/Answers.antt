use Rattle.std.proofs.Common.{◌≡◌, ◌∙◌, []}
use Rattle.std.specs.Prelude.{codes}
use Rattle.std.proofs.lemmas.Result.{IfOk-weaker}
use Rattle.ds_gen.specs.Generated.{host, host_a}
use Rattle.ds_gen.proofs.hosts.host_a.Goals as goal

pub returns : goal.returns
returns c =
    IfOk-weaker c.host.result
    (λ h. h ≡ host (codes "a") 1 (codes "127.0.0.1:7001") c.new.result c.in_ok-sender.field-0 c.new-2.result c.in_ok-lanes_out.field-0)
    (λ h. h ≡ host_a c.args.count)
    (λ h e. e ∙ (λ i. host (codes "a") 1 (codes "127.0.0.1:7001") (c.new.ensures i) (c.in_ok-sender.ensures i) (c.new-2.ensures i) (c.in_ok-lanes_out.ensures c.args.count i)))
    c.host.ensures
