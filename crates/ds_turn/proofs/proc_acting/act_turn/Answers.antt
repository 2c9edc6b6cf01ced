use Rattle.std.proofs.Common.{sym, subst}
use Rattle.ds_share.specs.Desks.{MayAct}
use Rattle.ds_turn.specs.Nodes.{seen_of}
use Rattle.ds_turn.proofs.ProcSteps.{may_act}
use Rattle.ds_turn.proofs.proc_acting.act_turn.Goals as goal

pub act-requires : goal.act-requires
act-requires g c =
    let site = seen_of c.args.node.now in record {
      may = subst (MayAct site.here) (sym c.in_ok-act.ensures) (may_act site site.here c.args.request c.args.reg c.args.host c.requires.asks.range);
    }
