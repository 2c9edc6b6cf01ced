use Rattle.ds_merge.proofs.Runs.{entries_replay, histories_replay}
use Rattle.ds_merge.proofs.laws.parts_are_runs.Goals as goal

pub returns-clause-entries : goal.returns-clause-entries
returns-clause-entries g c = λ of act w es name agree.
    entries_replay g.M.Machine.after g.M.Machine.moves g.M.Machine.entry g.M.Machine.answer of act w es name agree

pub returns-clause-histories : goal.returns-clause-histories
returns-clause-histories g c = λ of act w hs es h match found agree.
    histories_replay g.M.Machine.after g.M.Machine.moves g.M.Machine.entry g.M.Machine.answer of act w hs es h match found agree
