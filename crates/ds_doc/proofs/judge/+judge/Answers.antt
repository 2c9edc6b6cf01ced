use Rattle.std.proofs.Common.{◌≡◌, ◌+◌, ◌<◌, ◌∙◌, List, String, Global, string_bytes, sym, ap, subst, drop, length, get_or, option_map, option_copied, rules}
use Rattle.std.proofs.lemmas.List.{drop_more}
use Rattle.std.proofs.lemmas.Result.{IfOk-weaker}
use Rattle.serde_json.specs.declared.value.Value.{Value}
use Rattle.serde_json.specs.Data.{object}
use Rattle.serde_json.specs.View.{view, items_view, members_view}
use Rattle.ds_doc.specs.declared.form.Form.TheVariants.{Object}
use Rattle.ds_doc.specs.Places.{◌⊕◌, items_size, members_size}
use Rattle.ds_doc.specs.Forms.{member_form}
use Rattle.ds_doc.specs.Shapes.{least, Tells, judged, judged_items, whole_faults}
use Rattle.ds_doc.proofs.Judging.{all_on, all_stopped, members_begun, members_on, members_stopped, each_on, each_stopped, not_whole, items_told, words_told}
use Rattle.ds_doc.proofs.judge.+judge.Goals as goal

pub judge_all-loop-item-preserved : goal.judge_all-loop-item-preserved
judge_all-loop-item-preserved t c =
    let l = c.loop-item in
    let xs = c.deref-item-items.result.now in
    let v = c.item-item.result in
    let within : l.item-index < length xs = search rules in
    let same : get_or xs l.item-index v ≡ v = search rules in
    all_on c.args.form l.found _ c.lesser-found.result c.in_ok-judged.judged l.place _ v (drop l.item-index xs) (drop (l.item-index + 1) xs)
    (rw same at (drop_more xs l.item-index v within)) c.lesser-found.ensures c.in_ok-judged.ensures (sym c.is_least.ensures ∙ c.if-is_least.false) l.invariant

pub judge_all-returns-then-is_least : goal.judge_all-returns-then-is_least
judge_all-returns-then-is_least t c =
    let l = c.loop-item in
    let xs = c.deref-item-items.result.now in
    let v = c.item-item.result in
    let within : l.item-index < length xs = search rules in
    let same : get_or xs l.item-index v ≡ v = search rules in
    subst (λ (vs : List Value). Tells (record { fault = c.lesser-found.result; next = l.place }) (judged_items c.args.form c.args.at (items_view vs))
    (items_size c.args.at (items_view vs)))
    c.deref-item-items.ensures.value
    (all_stopped c.args.form l.found c.lesser-found.result (judged_items c.args.form c.args.at (items_view xs)) c.in_ok-judged.judged l.place
    (items_size c.args.at (items_view xs)) v
    (drop l.item-index xs) (drop (l.item-index + 1) xs)
    (rw same at (drop_more xs l.item-index v within)) c.lesser-found.ensures c.in_ok-judged.ensures (sym c.is_least.ensures ∙ c.if-is_least.true) l.invariant)

pub judge_each-loop-index-preserved : goal.judge_each-loop-index-preserved
judge_each-loop-index-preserved t c =
    let l = c.loop-index in
    let xs = c.args.items.now.items in
    let fs = c.args.forms.now in
    let v = c.index.result.now in
    let within : l.index + 1 < length xs = search rules in
    let same : get_or xs (l.index + 1) v ≡ v = search rules in
    each_on _ (drop l.index fs) (drop (l.index + 1) fs) l.found _ c.lesser-found.result c.in_ok-judged.judged l.place _ v (drop (l.index + 1) xs)
    (drop (l.index + 1 + 1) xs)
    (drop_more fs l.index _ c.loop-index-test.true) (rw same at (drop_more xs (l.index + 1) v within)) c.lesser-found.ensures c.in_ok-judged.ensures
    (sym c.is_least.ensures ∙ c.if-is_least.false) l.invariant

pub judge_each-returns-then-is_least : goal.judge_each-returns-then-is_least
judge_each-returns-then-is_least t c =
    let l = c.loop-index in
    let xs = c.args.items.now.items in
    let fs = c.args.forms.now in
    let v = c.index.result.now in
    let within : l.index + 1 < length xs = search rules in
    let same : get_or xs (l.index + 1) v ≡ v = search rules in
    each_stopped _ (drop l.index fs) (drop (l.index + 1) fs) l.found c.lesser-found.result _ c.in_ok-judged.judged l.place _ v (drop (l.index + 1) xs)
    (drop (l.index + 1 + 1) xs)
    (drop_more fs l.index _ c.loop-index-test.true) (rw same at (drop_more xs (l.index + 1) v within)) c.lesser-found.ensures c.in_ok-judged.ensures
    (sym c.is_least.ensures ∙ c.if-is_least.true) l.invariant

pub judge_items-returns : goal.judge_items-returns
judge_items-returns t c =
    items_told c.args.listed c.args.at c.saturating_add.result c.most.result c.item.result c.args.items.now.items c.deref.result.now c.in_ok-is_within.field-0
    c.unless-beyond.result c.lesser.result c.in_ok-found.found c.most.ensures c.item.ensures c.saturating_add.ensures c.deref.ensures.value
    c.in_ok-is_within.ensures
    c.unless-beyond.ensures c.lesser.ensures c.in_ok-found.ensures

pub judge_members-returns-then-is_least : goal.judge_members-returns-then-is_least
judge_members-returns-then-is_least t c =
    not_whole c.args.object c.args.at c.args.at _ (members_view c.args.members.now.entries) c.whole_fault-found.result c.ranges.at.fits
    c.whole_fault-found.ensures
    (sym c.is_least.ensures ∙ c.if-is_least.true)

pub judge_members-loop-name-init : goal.judge_members-loop-name-init
judge_members-loop-name-init t c =
    let e : c.saturating_add-place.result ≡ c.args.at ⊕ 1 = c.saturating_add-place.ensures in
    let all : c.into_iter-name-iterator.result ≡ c.args.members.now.entries = c.into_iter-name-iterator.ensures.into_iter_gives
    ∙ c.iter-name-items.ensures.rest in
    let found : c.whole_fault-found.result ≡ least (whole_faults c.args.object c.args.at (members_view c.into_iter-name-iterator.result)) =
    c.whole_fault-found.ensures ∙ sym (ap (λ (ms : List (String Global × Value)). least (whole_faults c.args.object c.args.at (members_view ms))) all) in
    rw e (members_begun c.args.object c.whole_fault-found.result c.args.at (members_view c.into_iter-name-iterator.result) found)

pub judge_members-loop-name-preserved : goal.judge_members-loop-name-preserved
judge_members-loop-name-preserved t c =
    let l = c.loop-name in
    members_on c.args.object l.found _ c.lesser-found.result c.in_ok-judged.judged l.place _ (string_bytes c.in-Some.name.now) (view c.in-Some.member.now)
    (members_view l.name-iterator) (members_view c.next.new.self) c.member.result
    (ap members_view c.in-Some.ensures.steps) c.lesser-found.ensures (c.member.ensures ∙ ap (member_form c.args.object) c.as_str.ensures.value)
    c.in_ok-judged.ensures
    (sym c.is_least-in-loop-name.ensures ∙ c.if-is_least-2.false) l.invariant

pub judge_members-returns-then-is_least-2 : goal.judge_members-returns-then-is_least-2
judge_members-returns-then-is_least-2 t c =
    let l = c.loop-name in
    let ms = c.into_iter-name-iterator.result in
    let all : ms ≡ c.args.members.now.entries = c.into_iter-name-iterator.ensures.into_iter_gives ∙ c.iter-name-items.ensures.rest in
    subst (λ (ns : List (String Global × Value)). Tells (record { fault = c.lesser-found.result; next = l.place })
    (judged (Object c.args.object) c.args.at (object (members_view ns)))
    (c.args.at ⊕ members_size 1 (members_view ns))) all
    (members_stopped c.args.object l.found c.lesser-found.result (judged (Object c.args.object) c.args.at (object (members_view ms))) c.in_ok-judged.judged
    l.place
    (c.args.at ⊕ members_size 1 (members_view ms)) (string_bytes c.in-Some.name.now) (view c.in-Some.member.now) (members_view l.name-iterator)
    (members_view c.next.new.self) c.member.result
    (ap members_view c.in-Some.ensures.steps) c.lesser-found.ensures (c.member.ensures ∙ ap (member_form c.args.object) c.as_str.ensures.value)
    c.in_ok-judged.ensures
    (sym c.is_least-in-loop-name.ensures ∙ c.if-is_least-2.true) l.invariant)

pub judge_words-returns : goal.judge_words-returns
judge_words-returns t c =
    IfOk-weaker c.judge_each.result _ _
    (λ j h. words_told c.args.worded c.args.at c.saturating_add.result c.in-Some.word.now c.in-Some-arguments.forms.now c.args.items.now.items
    c.deref.result.now c.deref-2.result.now j
    c.deref.ensures.value c.deref-2.ensures.value (sym c.first.ensures.value ∙ ap option_copied c.in-Some.is)
    (sym c.arguments.ensures ∙ ap (option_map (λ a. a.now)) c.in-Some-arguments.is) (sym c.is_count.ensures ∙ c.if-not-is_count.false)
    (c.saturating_add.ensures ∙ ap (λ p. p ⊕ c.size.result) c.saturating_add-place.ensures ∙ ap (λ n. (c.args.at ⊕ 1) ⊕ n) c.size.ensures) h)
    c.judge_each.ensures
