-- Tests of what is to be learnt.
use Rattle.std.proofs.Common.{◌≡◌, ◌∙◌, ◌↔◌, ℕ, Bool, true, false, true≢false, not, List, length, refl, sym, ap, nat_eq, nat_le}
use Rattle.std.proofs.lemmas.Bool.{and_from, and_parts, eq-eqb, eqb-true, false_from_ne_true}
use Rattle.std.proofs.lemmas.Bool.Decides.{same_from_decides}
use Rattle.std.proofs.lemmas.Slice.Eq.{bytes_eq-Decides, slice_eq-Decides}
use Rattle.std.specs.Bool.{Decides}
use Rattle.std.specs.Prelude.{None, Option, Some, if◌then◌else◌}
use Rattle.versions.specs.declared.refusal.Refusal.{Refusal}
use Rattle.versions.specs.declared.refusal.Refusal.TheVariants as refusal
use Rattle.terms.specs.declared.term.Term.{Term}
use Rattle.terms.specs.declared.term.Term.TheVariants.{In, NotIn}
use Rattle.registry.specs.Registry.{Packages}
use Rattle.registry.specs.Laws.{MatchingIsWhatMeets}
use Rattle.derivations.specs.Facts.{Terms}
use Rattle.derivations.specs.Derivations.{last_conclusion}
use Rattle.store.specs.Slots.{concludes}
use Rattle.derivations.specs.Learning.{AllStand}
use Rattle.store.specs.Stored.{all_stand, conclusion_of, is_stored, learn_refusal, same_on, same_term, same_terms, terms_or_none}
use Rattle.derivations.specs.Lines.{Line}
use Rattle.store.specs.declared.store.TheConstants.{STORE_LIMIT}
use Rattle.store.proofs.Tested.{all_from, all_to}

same_term-Decides : (s t : Term) → Decides (same_term s t) (s ≡ t)
same_term-Decides (In a) (In b) = (λ e. ap In ((bytes_eq-Decides a b).0 e), λ same. let sets : a ≡ b = cc in (bytes_eq-Decides a b).1 sets)
same_term-Decides (In a) (NotIn b) = (λ e. absurd (true≢false (sym e)), λ same. absurd (cc same))
same_term-Decides (NotIn a) (In b) = (λ e. absurd (true≢false (sym e)), λ same. absurd (cc same))
same_term-Decides (NotIn a) (NotIn b) = (λ e. ap NotIn ((bytes_eq-Decides a b).0 e), λ same. let sets : a ≡ b = cc in (bytes_eq-Decides a b).1 sets)

same_on-Decides : (s t : ℕ × Term) → Decides (same_on s t) (s ≡ t)
same_on-Decides s t = (
  λ e. let parts = and_parts (nat_eq s.0 t.0) (same_term s.1 t.1) e in λ i. (eqb-true s.0 t.0 parts.0 i, (same_term-Decides s.1 t.1).0 parts.1 i),
  λ same. and_from (nat_eq s.0 t.0) (same_term s.1 t.1) (eq-eqb s.0 t.0 (ap (λ (x : ℕ × Term). x.0) same)) ((same_term-Decides s.1 t.1).1 (ap (λ (x : ℕ × Term). x.1) same)),
)

pub same_terms-Decides : (a b : Terms) → Decides (same_terms a b) (a ≡ b)
same_terms-Decides a b = slice_eq-Decides same_on-Decides a b (same_terms a b) refl

-- a test of a conclusion answers what the definition says
pub concluded_as : (lines : List Line) (terms a : Terms) (answer : Bool) → last_conclusion lines ≡ Some a → (answer ≡ true) ↔ (a ≡ terms) → answer ≡ concludes terms lines
concluded_as lines terms a answer e tells =
    let own : conclusion_of lines ≡ a = ap terms_or_none e in
    same_from_decides {P = a ≡ terms} answer (same_terms (conclusion_of lines) terms) (tells.0, tells.1) (
      (λ t. sym own ∙ (same_terms-Decides (conclusion_of lines) terms).0 t),
      (λ same. (same_terms-Decides (conclusion_of lines) terms).1 (own ∙ same)),
    )

-- ---- the lowest refusal

pub is_stale : MatchingIsWhatMeets → (packages : Packages) (members : List (List Line)) (lines : List Line) → (AllStand packages lines → ⊥) → learn_refusal packages members lines ≡ Some refusal.Stale
unfolding learn_refusal
is_stale matched packages members lines apart =
    by (all_stand packages lines) _ (false_from_ne_true (all_stand packages lines) (λ t. apart (all_from matched packages lines t)))
  where
    by : (a : Bool) (o : Option Refusal) → a ≡ false → (if not a then Some refusal.Stale else o) ≡ Some refusal.Stale
    by true o e = absurd (true≢false e)
    by false o e = refl

-- where the premises stand, the other two are asked
fresh : (a b c : Bool) → a ≡ true
    → (if not a then Some refusal.Stale else (if b then Some refusal.Known else (if c then Some refusal.StoreFull else None)))
    ≡ (if b then Some refusal.Known else (if c then Some refusal.StoreFull else None))
fresh true b c e = refl
fresh false b c e = absurd (true≢false (sym e))

pub is_known : MatchingIsWhatMeets → (packages : Packages) (members : List (List Line)) (lines : List Line) → AllStand packages lines → is_stored members lines ≡ true → learn_refusal packages members lines ≡ Some refusal.Known
unfolding learn_refusal
is_known matched packages members lines stand known =
    fresh (all_stand packages lines) (is_stored members lines) (nat_le STORE_LIMIT (length members)) (all_to matched packages lines stand)
    ∙ ap (λ b. if b then Some refusal.Known else (if nat_le STORE_LIMIT (length members) then Some refusal.StoreFull else None)) known

-- where its conclusion is new, only the limit is asked
pub is_new : MatchingIsWhatMeets → (packages : Packages) (members : List (List Line)) (lines : List Line) (full : Bool) → AllStand packages lines → is_stored members lines ≡ false → nat_le STORE_LIMIT (length members) ≡ full
    → learn_refusal packages members lines ≡ (if full then Some refusal.StoreFull else None)
unfolding learn_refusal
is_new matched packages members lines full stand known e =
    fresh (all_stand packages lines) (is_stored members lines) (nat_le STORE_LIMIT (length members)) (all_to matched packages lines stand)
    ∙ ap (λ b. if b then Some refusal.Known else (if nat_le STORE_LIMIT (length members) then Some refusal.StoreFull else None)) known
    ∙ ap (λ b. if b then Some refusal.StoreFull else None) e
