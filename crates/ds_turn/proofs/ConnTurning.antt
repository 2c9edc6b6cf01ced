-- Turns of a connection, by what they did, leave it leading to its host.
use Rattle.std.proofs.Common.{◌≡◌, ℕ, List, map, refl, sym, subst}
use Rattle.std.specs.Prelude.{Ok, Err}
use Rattle.ds_frame.specs.declared.item.ReadEnd.TheVariants as ends
use Rattle.ds_inlet.specs.declared.offer.Offer.TheVariants as offers
use Rattle.ds_inlet.specs.Connections.{Connection, arrived_more, new_connection}
use Rattle.ds_script.specs.declared.actor.Actor.{Actor}
use Rattle.ds_turn.specs.declared.node.Node.{Node}
use Rattle.ds_turn.specs.ConnRecords.{ConnRecord}
use Rattle.ds_turn.specs.ConnTurns.{AsItWas, Broke, Counted, Greeted, Judged, KeepsBack, LeadsTo, Offers, Put, Rests, TookConnTurn, name_of_seat}
use Rattle.ds_turn.proofs.ConnSteps.{leads_judged, leads_put, leads_read, leads_settled, read_from}

module _ (node : Node) (a b : ConnRecord) (leads : LeadsTo node a.conn) where
  conn_is : (r : ConnRecord) → b ≡ r → LeadsTo node r.conn → LeadsTo node b.conn
  conn_is r is leads = subst (λ (x : ConnRecord). LeadsTo node x.conn) (sym is) leads

  pub leads_turn : TookConnTurn node.boxes.items a b → LeadsTo node b.conn
  leads_turn (Greeted t) = conn_is _ t.becomes (leads_read node a.conn t.next (read_from a.conn (Ok offers.Hello) t.next t.reads) leads)
  leads_turn (Broke t) = conn_is _ t.becomes (leads_read node a.conn t.next (read_from a.conn (Err (ends.BadFrame t.cause t.place)) t.next t.reads) leads)
  leads_turn (Counted t) = conn_is _ t.counts.becomes (leads_settled node t.next _ t.inlet (leads_read node a.conn t.next (read_from a.conn (Ok (offers.Frame t.inlet t.number)) t.next t.reads) leads) t.place)
  leads_turn (Put t) = conn_is _ t.becomes (leads_put node a.conn leads)
  leads_turn (Judged t) = conn_is _ t.becomes (leads_judged node a.conn leads t.judged.lane t.judged.known t.judged.front t.judged.rest t.judged.reply t.verdict t.judged.hand t.judged.says)

  pub leads_back : KeepsBack a b → LeadsTo node b.conn
  leads_back (AsItWas same) = conn_is a same leads
  leads_back (Offers inlet number reads is) = leads_read node a.conn b.conn (read_from a.conn (Ok (offers.Frame inlet number)) b.conn reads) leads

  pub leads_rest : Rests a b → LeadsTo node b.conn
  leads_rest t = conn_is a t.same leads

-- before any byte, and after more of them
pub leads_new : (node : Node) (who : Actor) → LeadsTo node (new_connection who node.desk (map name_of_seat node.inlets.items))
leads_new node who = record { here = refl; inlets = refl; passed = tt; hello = λ none. (refl, refl) }

pub leads_arrived : (node : Node) (piece : List ℕ) (k : Connection) → LeadsTo node k → LeadsTo node (arrived_more piece k)
leads_arrived node piece k leads = record { here = leads.here; inlets = leads.inlets; passed = leads.passed; hello = leads.hello }
