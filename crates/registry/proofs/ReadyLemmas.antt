-- What is made ready for a publication.
use Rattle.std.proofs.Common.{◌≡◌, ◌<◌, ◌+◌, ◌∙◌, ℕ, suc, List, [], ◌∷◌, ◌++◌, Result, Ok, Err, OnOk, Bool, true, false, if◌then◌else◌, add-one, ap, drop, get_or, length, take, refl, subst, sym}
use Rattle.std.specs.Borrow.{Bor}
use Rattle.std.specs.List.{find, list_any}
use Rattle.std.specs.Option.{option_map}
use Rattle.std.specs.Prelude.{Option, None, Some, IfSome, slice_get}
use Rattle.std.specs.Str.{bytes_eq}
use Rattle.std.proofs.lemmas.Map.Made.{IfSome-find_same}
use Rattle.std.proofs.lemmas.Slice.Eq.{bytes_eq-Decides}
use Rattle.std.proofs.Math.Seq.{drop-cons}
use Rattle.std.proofs.lemmas.List.{append_assoc, take_more}
use Rattle.std.proofs.lemmas.List.Folds.{list_any_at}
use Rattle.std.proofs.lemmas.Option.{get_or_from_slice_get, slice_get_within, same_Some}
use Rattle.std.proofs.lemmas.List.Elements.{All-append, All-cons, All-nil}
use Rattle.versions.specs.Words.{Text}
use Rattle.registry.specs.Publications.{PublicationList}
use Rattle.registry.specs.Rooms.{AreEmpty, IsReady, IsReadyIfAny, names_in, publication_for, unknown_names}
use Rattle.registry.specs.declared.ready.Ready.{Ready}

-- ---- the needs, one by one

module _ (known : Text → Bool) (needs : List (Text × Text)) (i : ℕ) (d : Text × Text) (lt : i < length needs) (at : d ≡ get_or needs i d) where
  this : unknown_names known (drop i needs) ≡ (if known d.0 then unknown_names known (drop (i + 1) needs) else d.0 ∷ unknown_names known (drop (i + 1) needs))
  this = ap (unknown_names known) (drop-cons needs i d lt ∙ ap (λ x. x ∷ drop (suc i) needs) (sym at)) ∙ ap (λ n. unknown_names known (d ∷ drop n needs)) (sym (add-one i))

  -- a need more
  pub unknown-more : (old new : List (Text × PublicationList)) → names_in new ≡ names_in old ++ unknown_names known (d ∷ []) → names_in old ++ unknown_names known (drop i needs) ≡ unknown_names known needs
      → names_in new ++ unknown_names known (drop (i + 1) needs) ≡ unknown_names known needs
  unknown-more old new grown all =
      ap (λ l. l ++ unknown_names known (drop (i + 1) needs)) grown
      ∙ append_assoc (names_in old) (unknown_names known (d ∷ [])) (unknown_names known (drop (i + 1) needs))
      ∙ ap (λ l. names_in old ++ l) (either (known d.0) d.0 (unknown_names known (drop (i + 1) needs)) ∙ sym this)
      ∙ all
    where
      either : (b : Bool) (name : Text) (rest : List Text) → (if b then [] else name ∷ []) ++ rest ≡ (if b then rest else name ∷ rest)
      either true name rest = refl
      either false name rest = refl

-- what holds anyway holds where a call succeeds
pub on_ok : {T E : Type 0} (r : Result T E) (P : Type 0) → P → OnOk r P
on_ok (Ok x) P p = p
on_ok (Err e) P p = tt

pub AreEmpty-push : (added : List (Text × PublicationList)) (new : Text × PublicationList) → AreEmpty added → new.1.publications ≡ [] → AreEmpty (added ++ new ∷ [])
AreEmpty-push added new all empty =
    let P : Text × PublicationList → Type 0 = λ p. p.1.publications ≡ [] in
    All-append P added (new ∷ []) all (All-cons P new [] empty (All-nil P))

-- an equal need more
pub taken-push : (needs same : List (Text × Text)) (i : ℕ) (d kept : Text × Text) → i < length needs → d ≡ get_or needs i d → kept ≡ d → same ≡ take i needs → same ++ kept ∷ [] ≡ take (i + 1) needs
taken-push needs same i d kept lt at is before =
    ap (λ (n : Text × Text). same ++ n ∷ []) (is ∙ at) ∙ ap (λ l. l ++ get_or needs i d ∷ []) before ∙ sym (take_more needs i d lt)

-- the name that a look-up finds is the name that is looked up
pub kept-same : (found : Option (ℕ × Bor Text)) (name : Text) (names : List Text) → option_map (λ (p : ℕ × Bor Text). p.1.now) found ≡ find (bytes_eq name) names
    → IfSome found (λ (p : ℕ × Bor Text). p.1.now ≡ name)
kept-same found name names at =
    let P : Text → Type 0 = λ kept. kept ≡ name in
    behind P found (subst (λ o. IfSome o P) (sym at) (IfSome-find_same {eq = bytes_eq} bytes_eq-Decides name names))
  where
    behind : (P : Text → Type 0) (found : Option (ℕ × Bor Text)) → IfSome (option_map (λ (p : ℕ × Bor Text). p.1.now) found) P → IfSome found (λ (p : ℕ × Bor Text). P p.1.now)
    behind P None h = h
    behind P (Some kept) h = h

-- a name that stands at a place is among the names
pub stands-any : (names : List Text) (name : Text) (i : ℕ) → slice_get names i ≡ Some name → bytes_eq name name ≡ true → true ≡ list_any (bytes_eq name) names
stands-any names name i at is =
    sym (list_any_at (bytes_eq name) names i [] (slice_get_within names i name at) (ap (bytes_eq name) (get_or_from_slice_get names i name [] at) ∙ is))

-- ---- what was made ready is taken

pub ready-taken : (names : List Text) (names_room : ℕ) (lists : List PublicationList) (lists_room : ℕ) (o : Option Ready) (r : Ready)
    → IsReadyIfAny names names_room lists lists_room o → o ≡ Some r → IsReady names names_room lists lists_room r
ready-taken names names_room lists lists_room o r h e = subst (IsReadyIfAny names names_room lists lists_room) e h

pub ready-for : (o : Option Ready) (r : Ready) (name : Text) (needs : List (Text × Text)) → publication_for o ≡ Some (name, needs) → o ≡ Some r → (r.name ≡ name) × (r.needs ≡ needs)
ready-for o r name needs for_this e =
    let same = same_Some {A = Text × List (Text × Text)} (r.name, r.needs) (name, needs) (sym (ap publication_for e) ∙ for_this) in
    (ap (λ (p : Text × List (Text × Text)). p.0) same, ap (λ (p : Text × List (Text × Text)). p.1) same)
