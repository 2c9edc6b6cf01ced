-- What is told of a delegation, an import and a mapping.
use Rattle.std.proofs.Common.{◌≡◌, ℕ, List, [], ◌∷◌, Bool, true, false, Option, Some, None, length, refl, sym, ap, ◌∙◌}
use Rattle.std.specs.Prelude.{if◌then◌else◌, ◌||◌, ◌==◌, nat_lt, Result, Ok, Err, IfOk, OnOk, OnErr}
use Rattle.std.specs.Int.{w64, to_be_bytes}
use Rattle.ds_wire.specs.Fields.{IsBytes}
use Rattle.ds_label.specs.declared.category.Category.{Category}
use Rattle.ds_label.specs.declared.category.PubKey.{PubKey}
use Rattle.ds_label.specs.declared.rule.Rule.{Rule}
use Rattle.ds_label.specs.declared.rule.Rule.TheVariants.{BadCert, StoreFull, TableFull, KeySpent}
use Rattle.ds_cert.specs.declared.delegation.Delegation.{Delegation}
use Rattle.ds_cert.specs.declared.address.Address.{Address}
use Rattle.ds_cert.specs.declared.cert.Cert.{Cert}
use Rattle.ds_cert.specs.Ranges.{DelegationFits, DelegationRange, AddressFits, AddressRange}
use Rattle.ds_cert.specs.Reading.{delegation_at, address_at, read_delegation, read_address, read_cert, read_by_tag, as_delegation, as_address}
use Rattle.ds_cert.specs.Spelling.{spelling_of_category, spelling_of_delegation, spelling_of_address, spelling_of_cert}
use Rattle.ds_cert.proofs.RecordLaws.{is_delegation, is_address}
use Rattle.ds_cert.proofs.Wholes.{found_whole}
use Rattle.ds_model.specs.Scheme.{Scheme, delegation_by}
use Rattle.ds_model.specs.Plan.{HostPlan}
use Rattle.ds_model.specs.FirstRule.{unless, first_rule}
use Rattle.ds_model.specs.Mapping.{is_known, row_limit}
use Rattle.ds_model.specs.Desk.{Reply, Done, Made, Local, Refuse, Delegated, Imported, Mapped, Delegating, Importing, Mapping, entry_unless, import_entry, import_rule, is_good, reply_of, store_limit, DeskEntry as Change}
use Rattle.ds_desk.specs.Signing.{desk_scheme, desk_plan, if_read}
use Rattle.ds_desk.specs.Desks.{DeskView}
use Rattle.ds_desk.specs.Replies.{Answers, AnswersOver, Enters, EntersOver, entry_for, reply_for}
use Rattle.ds_desk.specs.declared.fault.DeskFault.{DeskFault}
use Rattle.ds_desk.specs.declared.fault.DeskFault.TheVariants as desk_faults
use Rattle.ds_desk.specs.declared.fault.EntryFault.{EntryFault}
use Rattle.ds_desk.specs.declared.fault.EntryFault.TheVariants as entry_faults
use Rattle.ds_share.specs.declared.told.Told.{Told}
use Rattle.ds_share.specs.declared.desk_act.DeskReply.TheVariants as replies
use Rattle.ds_share.specs.Desks.{answer_of, given_by_desk}
use Rattle.ds_share.specs.Tells.{delegation_told, import_told, kept_told, made_told, mapped_told, mapping_told, refused_told, told}

bytes_made : Reply → List ℕ
bytes_made Done = []
bytes_made (Made bytes) = bytes
bytes_made (Local n) = []
bytes_made (Refuse rule) = []

number_told : Reply → ℕ
number_told Done = 0
number_told (Made bytes) = 0
number_told (Local n) = n
number_told (Refuse rule) = 0

rule_told : Reply → Rule
rule_told Done = BadCert
rule_told (Made bytes) = BadCert
rule_told (Local n) = BadCert
rule_told (Refuse rule) = rule

-- ---- certificates that were read

read_ok : (r : Result Cert ℕ) (new : Cert) → if_read r ≡ Some new → r ≡ Ok new
read_ok (Ok c) new e = ap ok_of e
  where
    ok_of : Option Cert → Result Cert ℕ
    ok_of None = Err 0
    ok_of (Some x) = Ok x
read_ok (Err place) new e = absurd cc

delegation_spelled : (bytes : List ℕ) (r : Result Delegation ℕ) (new : Cert) → IsBytes bytes → read_delegation bytes ≡ r → as_delegation r ≡ Ok new → bytes ≡ spelling_of_cert new
unfolding read_delegation
delegation_spelled bytes (Ok d) new fits is e =
    (found_whole DelegationFits spelling_of_delegation delegation_at is_delegation DelegationRange (λ x in_range. in_range.range) bytes (Ok d) fits is).1 ∙ ap spelled_of e
  where
    spelled_of : Result Cert ℕ → List ℕ
    spelled_of (Ok c) = spelling_of_cert c
    spelled_of (Err place) = []
delegation_spelled bytes (Err place) new fits is e = absurd cc

address_spelled : (bytes : List ℕ) (r : Result Address ℕ) (new : Cert) → IsBytes bytes → read_address bytes ≡ r → as_address r ≡ Ok new → bytes ≡ spelling_of_cert new
unfolding read_address
address_spelled bytes (Ok a) new fits is e =
    (found_whole AddressFits spelling_of_address address_at is_address AddressRange (λ x in_range. in_range.range) bytes (Ok a) fits is).1 ∙ ap spelled_of e
  where
    spelled_of : Result Cert ℕ → List ℕ
    spelled_of (Ok c) = spelling_of_cert c
    spelled_of (Err place) = []
address_spelled bytes (Err place) new fits is e = absurd cc

pub cert_spelled : (bytes : List ℕ) (new : Cert) → IsBytes bytes → if_read (read_cert bytes) ≡ Some new → bytes ≡ spelling_of_cert new
unfolding read_cert
cert_spelled bytes new fits e = by_tag bytes (read_ok (read_by_tag bytes bytes) new e)
  where
    by_tag : (front : List ℕ) → read_by_tag bytes front ≡ Ok new → bytes ≡ spelling_of_cert new
    by_tag [] f = absurd cc
    by_tag (tag ∷ rest) f = first (tag == 1) (tag == 2) f
      where
        first : (one two : Bool) → (if one then as_delegation (read_delegation bytes) else if two then as_address (read_address bytes) else Err 0) ≡ Ok new → bytes ≡ spelling_of_cert new
        first true two g = delegation_spelled bytes (read_delegation bytes) new fits refl g
        first false true g = address_spelled bytes (read_address bytes) new fits refl g
        first false false g = absurd cc

-- ---- what the acts tell

module _ (s : Scheme) (plan : HostPlan) (k : DeskView) where
  abbrev answers : Change → Reply
  answers entry = reply_of (desk_scheme s) (desk_plan plan k.here k.key) k.desk entry

  made_by : (new : Delegation) (made : List ℕ) (r : Option Rule) → answers (entry_unless r (Delegated new)) ≡ Made made → made_told made ≡ told (entry_unless r (Delegated new)) [] (answer_of (answers (entry_unless r (Delegated new))))
  unfolding bytes_made spelling_of_delegation
  made_by new made None e = ap made_told (sym (ap bytes_made e))
  made_by new made (Some rule) e = absurd cc

  refused_by : (entry : Change) (rule : Rule) (r : Option Rule) → (answers entry ≡ Refuse rule → ⊥) → answers (entry_unless r entry) ≡ Refuse rule → refused_told rule ≡ told (entry_unless r entry) [] (answer_of (answers (entry_unless r entry)))
  unfolding rule_told
  refused_by entry rule None never e = absurd (never e)
  refused_by entry rule (Some first) never e = ap refused_told (sym (ap rule_told e))

  mapped_by : (c : Category) (local : ℕ) (r : Option Rule) → answers (entry_unless r (Mapped c)) ≡ Local local
      → mapped_told (spelling_of_category c) local ≡ told (entry_unless r (Mapped c)) (to_be_bytes w64 local) (answer_of (answers (entry_unless r (Mapped c))))
  unfolding number_told
  mapped_by c local None e = ap (λ (n : ℕ). told (Mapped c) (to_be_bytes w64 local) (replies.Local n)) (sym (ap number_told e))
  mapped_by c local (Some rule) e = absurd cc

  kept_or : (bytes : List ℕ) (new : Cert) (r : Option Rule) → bytes ≡ spelling_of_cert new → answers (entry_unless r (Imported new)) ≡ Done → kept_told bytes ≡ told (entry_unless r (Imported new)) [] (answer_of (answers (entry_unless r (Imported new))))
  kept_or bytes new None is e = ap kept_told is
  kept_or bytes new (Some rule) is e = absurd cc

  kept_by : (bytes : List ℕ) (read : Option Cert) → ((new : Cert) → read ≡ Some new → bytes ≡ spelling_of_cert new) → answers (import_entry (desk_scheme s) k.desk read) ≡ Done
      → kept_told bytes ≡ told (import_entry (desk_scheme s) k.desk read) [] (answer_of (answers (import_entry (desk_scheme s) k.desk read)))
  kept_by bytes None is e = absurd cc
  kept_by bytes (Some new) is e = kept_or bytes new (first_rule (unless (is_good (desk_scheme s) new) BadCert ∷ import_rule k.desk new ∷ [])) (is new refl) e

  unkept_by : (rule : Rule) (read : Option Cert) → answers (import_entry (desk_scheme s) k.desk read) ≡ Refuse rule
      → refused_told rule ≡ told (import_entry (desk_scheme s) k.desk read) [] (answer_of (answers (import_entry (desk_scheme s) k.desk read)))
  unfolding rule_told
  unkept_by rule None e = ap refused_told (sym (ap rule_told e))
  unkept_by rule (Some new) e = refused_by (Imported new) rule (first_rule (unless (is_good (desk_scheme s) new) BadCert ∷ import_rule k.desk new ∷ [])) (λ f. cc) e

  -- of a delegation
  module _ (c : Category) (to : PubKey) (from until : ℕ) where
    abbrev delegating : Told → Type 0
    delegating t = t ≡ told (entry_for s plan k (Delegating c to from until)) (given_by_desk t.reply) (answer_of (reply_for s plan k (Delegating c to from until)))

    abbrev delegation_rule : Option Rule
    delegation_rule =
        first_rule (unless (nat_lt (length k.desk.store) store_limit) StoreFull ∷ unless ((desk_scheme s).has_leaf (desk_plan plan k.here k.key).signing k.desk.leaf) KeySpent ∷ [])

    abbrev own_delegation : Delegation
    own_delegation = delegation_by (desk_scheme s) (desk_plan plan k.here k.key).signing k.desk.leaf (desk_plan plan k.here k.key).key c to from until

    pub tells_delegation : (r : Result (List ℕ) DeskFault) → AnswersOver Made r (reply_for s plan k (Delegating c to from until)) → IfOk (delegation_told r) delegating
    tells_delegation (Ok made) e = made_by own_delegation made delegation_rule e
    tells_delegation (Err (desk_faults.Refused rule)) e = refused_by (Delegated own_delegation) rule delegation_rule (λ f. cc) e
    tells_delegation (Err desk_faults.KeeperFault) e = tt
    tells_delegation (Err desk_faults.NoMemory) e = tt

  pub tells_import : (bytes : List ℕ) → IsBytes bytes → (r : Result (Unit {0}) EntryFault) → Answers (λ _. Done) r (reply_for s plan k (Importing bytes))
      → IfOk (import_told bytes r) (λ (t : Told). t ≡ told (entry_for s plan k (Importing bytes)) (given_by_desk t.reply) (answer_of (reply_for s plan k (Importing bytes))))
  tells_import bytes fits (Ok done) e = kept_by bytes (if_read (read_cert bytes)) (λ new. cert_spelled bytes new fits) e
  tells_import bytes fits (Err (entry_faults.Refused rule)) e = unkept_by rule (if_read (read_cert bytes)) e
  tells_import bytes fits (Err entry_faults.NoMemory) e = tt

  abbrev row_rule : Category → Option Rule
  row_rule c = unless (is_known (desk_plan plan k.here k.key).key k.desk.rows c || nat_lt (length k.desk.rows) row_limit) TableFull

  pub tells_mapping : (c : Category) (r : Result ℕ EntryFault) → Answers Local r (reply_for s plan k (Mapping c))
      → IfOk (mapping_told (spelling_of_category c) r) (λ (t : Told). t ≡ told (entry_for s plan k (Mapping c)) (given_by_desk t.reply) (answer_of (reply_for s plan k (Mapping c))))
  tells_mapping c (Ok local) e = mapped_by c local (row_rule c) e
  tells_mapping c (Err (entry_faults.Refused rule)) e = refused_by (Mapped c) rule (row_rule c) (λ f. cc) e
  tells_mapping c (Err entry_faults.NoMemory) e = tt

-- ---- what they enter

pub delegation_enters : (r : Result (List ℕ) DeskFault) (old after new : DeskView) → EntersOver r old after new → OnOk (delegation_told r) (new ≡ after)
delegation_enters (Ok made) old after new e = e
delegation_enters (Err (desk_faults.Refused rule)) old after new e = e
delegation_enters (Err desk_faults.KeeperFault) old after new e = tt
delegation_enters (Err desk_faults.NoMemory) old after new e = tt

pub delegation_stays : (r : Result (List ℕ) DeskFault) (old after new : DeskView) → EntersOver r old after new → OnErr (delegation_told r) (new ≡ old)
delegation_stays (Ok made) old after new e = tt
delegation_stays (Err (desk_faults.Refused rule)) old after new e = tt
delegation_stays (Err desk_faults.KeeperFault) old after new e = e
delegation_stays (Err desk_faults.NoMemory) old after new e = e

pub import_enters : (bytes : List ℕ) (r : Result (Unit {0}) EntryFault) (old after new : DeskView) → Enters r old after new → OnOk (import_told bytes r) (new ≡ after)
import_enters bytes (Ok done) old after new e = e
import_enters bytes (Err (entry_faults.Refused rule)) old after new e = e
import_enters bytes (Err entry_faults.NoMemory) old after new e = tt

pub import_stays : (bytes : List ℕ) (r : Result (Unit {0}) EntryFault) (old after new : DeskView) → Enters r old after new → OnErr (import_told bytes r) (new ≡ old)
import_stays bytes (Ok done) old after new e = tt
import_stays bytes (Err (entry_faults.Refused rule)) old after new e = tt
import_stays bytes (Err entry_faults.NoMemory) old after new e = e

pub mapping_enters : (spelled : List ℕ) (r : Result ℕ EntryFault) (old after new : DeskView) → Enters r old after new → OnOk (mapping_told spelled r) (new ≡ after)
mapping_enters spelled (Ok local) old after new e = e
mapping_enters spelled (Err (entry_faults.Refused rule)) old after new e = e
mapping_enters spelled (Err entry_faults.NoMemory) old after new e = tt

pub mapping_stays : (spelled : List ℕ) (r : Result ℕ EntryFault) (old after new : DeskView) → Enters r old after new → OnErr (mapping_told spelled r) (new ≡ old)
mapping_stays spelled (Ok local) old after new e = tt
mapping_stays spelled (Err (entry_faults.Refused rule)) old after new e = tt
mapping_stays spelled (Err entry_faults.NoMemory) old after new e = e
