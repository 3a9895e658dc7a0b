use Rattle.std.proofs.Common.{◌≡◌, List, Some, None, append_assoc, refl, rules, subst, sym}
use Rattle.std.specs.List.{slice_get}
use Rattle.std.proofs.lemmas.List.{append-nil}
use Rattle.std.proofs.lemmas.Option.{slice_get_past, slice_get_read}
use Rattle.std.proofs.lemmas.Result.{IfOk-equal}
use Rattle.versions.specs.Words.{Text}
use Rattle.explain.specs.Explanations.{need_text}
use Rattle.explain.proofs.causes.put_cause.Goals as goal

pub returns-in-None : goal.returns-in-None
unfolding need_text
returns-in-None c =
    let none = subst (λ (needs : List (Text × Text)). slice_get needs c.in-Need.index ≡ None) c.needs.ensures.needs (slice_get_past c.needs.result.now c.in-Need.index c.in-None.ensures.lookup.3) in
    rw (c.in-Need.is, none) (sym (append-nil _))

pub returns-in-Some : goal.returns-in-Some
returns-in-Some c =
    let found = c.in-Some.ensures.lookup in
    let here = subst (λ (needs : List (Text × Text)). slice_get needs c.in-Need.index ≡ Some c.in-Some.need.now) c.needs.ensures.needs
    (slice_get_read c.needs.result.now _ c.in-Need.index c.in-Some.need.now refl found.3.0 found.1) in
    rw (c.in-Need.is, here) c.put_need.ensures

pub returns-in-Premise : goal.returns-in-Premise
returns-in-Premise c = rw c.in-Premise.is c.put_premise.ensures

pub returns-in_ok-push_str-in-Line : goal.returns-in_ok-push_str-in-Line
returns-in_ok-push_str-in-Line c = rw c.in-Line.is (IfOk-equal c.put_number.result _ _ _ c.put_number.ensures (search (rules, append_assoc)))

pub returns-in_ok-push_str-in-NotAllowed : goal.returns-in_ok-push_str-in-NotAllowed
returns-in_ok-push_str-in-NotAllowed c =
    rw (c.in-NotAllowed.is, c.in_ok-push_str-in-NotAllowed.ensures.bytes, c.in_ok-put_choice-in-NotAllowed.ensures) (simp append_assoc)

pub returns-in_ok-push_str-in-Root : goal.returns-in_ok-push_str-in-Root
returns-in_ok-push_str-in-Root c = rw (c.in-Root.is, c.in_ok-push_str-in-Root.ensures.bytes)
