use Rattle.std.proofs.Common.{◌≡◌, ◌∙◌, ℕ, List, [], ◌∷◌, length, Bool, true, false, ◌||◌, nat_eq, true≢false, refl, sym, rules}
use Rattle.std.specs.Str.{bytes_eq}
use Rattle.std.proofs.lemmas.Bool.{and_right, eqb-true}
use Rattle.terms.specs.Sets.{has}
use Rattle.explain.specs.Choices.{is_request}
use Rattle.explain.proofs.choices.is_request.Goals as goal
use Rattle.explain.proofs.choices.is_request.Goals.{then-pkg-eq-ROOT, else-pkg-eq-ROOT}

or-false : (b : Bool) → (b || false) ≡ b
or-false true = refl
or-false false = refl

-- a set of one ordinal, which is 0
alone : (set : List ℕ) → has set 0 ≡ true → nat_eq (length set) 1 ≡ bytes_eq set (0 ∷ [])
alone [] h = absurd (true≢false (sym h))
alone (x ∷ []) h = let zero : nat_eq x 0 ≡ true = sym (or-false (nat_eq x 0)) ∙ h in rw zero refl
alone (x ∷ y ∷ rest) h =
    let long : nat_eq (length (x ∷ y ∷ rest)) 1 ≡ false = search rules in
    rw (long, and_right (nat_eq x 0) false refl) refl

request_alone : (p n : ℕ) (set : List ℕ) → p ≡ 0 → has set 0 ≡ true → n ≡ length set → nat_eq n 1 ≡ is_request p set
request_alone p n set root zero count = rw (root, count) (alone set zero)

pub returns-then-has : goal.returns-then-has
returns-then-has c = elim c.if-pkg-eq-ROOT.branch [
  | then-pkg-eq-ROOT w ↦ request_alone c.args.pkg c.len.result c.args.set.now w.if-pkg-eq-ROOT.true (sym w.has.ensures ∙ sym w.value-is ∙ c.if-has.true) c.len.ensures
  | else-pkg-eq-ROOT w ↦ absurd (w.if-pkg-eq-ROOT.false (eqb-true c.args.pkg 0 (sym w.value-is ∙ c.if-has.true)))
]
