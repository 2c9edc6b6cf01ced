use Rattle.dstar.proofs.Sims.{outside_is}
use Rattle.dstar.proofs.simulate.simulate.Goals as goal

pub returns-clause-ok : goal.returns-clause-ok
returns-clause-ok c =
    record {
      document = c.in_ok-doc.doc;
      reads = c.in_ok-doc.ensures.answer;
      runs = c.in_ok-text.ensures;
      lawful = c.in_ok-text.ensures.lawful;
      outside = outside_is c.args.bytes.now c.in_ok-doc.doc c.in_ok-text.ensures.events c.in_ok-doc.ensures.answer;
    }
