-- An incompatibility is told by what it says of choices: what follows on a pivot is one incompatibility.
use Rattle.std.proofs.Common.{◌≡◌, ◌<◌, ◌≤◌, ◌∙◌, inl, inr, ℕ, suc, List, [], ◌∷◌, refl, sym, ap, subst, arith, true, false, true≢false, rules, nat_eq, nat_lt}
use Rattle.std.specs.Prelude.{Option}
use Rattle.std.proofs.lemmas.Bool.{cases_Bool, eqb-true}
use Rattle.terms.proofs.Ascending.{nat_eq-itself}
use Rattle.terms.proofs.MergedTerms.{true_at-absent}
use Rattle.terms.proofs.SameSets.{same_term}
use Rattle.terms.specs.Incompats.{AreTerms, Follows, IsIncompat, OrderedFrom, true_at}
use Rattle.terms.specs.Terms.{true_of}
use Rattle.terms.specs.declared.term.Term.{Term}

true_at-first : (t : ℕ × Term) (rest : List (ℕ × Term)) (choice : Option ℕ) → true_at (t ∷ rest) t.0 choice ≡ true_of t.1 choice
true_at-first t rest choice = rw (nat_eq-itself t.0) refl

true_at-later : (t : ℕ × Term) (rest : List (ℕ × Term)) (pkg : ℕ) (choice : Option ℕ) → nat_eq t.0 pkg ≡ false → true_at (t ∷ rest) pkg choice ≡ true_at rest pkg choice
true_at-later t rest pkg choice e = rw e refl

-- two incompatibilities that say the same of all choices are the same
pub same_incompat : (low : ℕ) (c d : List (ℕ × Term)) → OrderedFrom low c → OrderedFrom low d → AreTerms c → AreTerms d
    → ((pkg : ℕ) (choice : Option ℕ) → true_at c pkg choice ≡ true_at d pkg choice) → c ≡ d
same_incompat low [] [] f g s r h = refl
same_incompat low [] (u ∷ others) f g s r h =
    let x = g.1 in absurd (true≢false (h u.0 x.0 ∙ true_at-first u others x.0 ∙ x.1))
same_incompat low (t ∷ rest) [] f g s r h =
    let x = f.1 in absurd (true≢false (sym (h t.0 x.0) ∙ true_at-first t rest x.0 ∙ x.1))
same_incompat low (t ∷ rest) (u ∷ others) f g s r h =
    elim (cases_Bool (nat_lt t.0 u.0)) [
      | inl lt ↦
          let below : t.0 < u.0 = search rules in
          let x = f.1 in
          let gone : true_at (u ∷ others) t.0 x.0 ≡ true = true_at-absent u.0 t.0 (u ∷ others) x.0 (omega arith, g.1, g.2) below in
          absurd (true≢false (sym gone ∙ sym (h t.0 x.0) ∙ true_at-first t rest x.0 ∙ x.1))
      | inr ge ↦ elim (cases_Bool (nat_lt u.0 t.0)) [
        | inl lt ↦
            let below : u.0 < t.0 = search rules in
            let x = g.1 in
            let gone : true_at (t ∷ rest) u.0 x.0 ≡ true = true_at-absent t.0 u.0 (t ∷ rest) x.0 (omega arith, f.1, f.2) below in
            absurd (true≢false (sym gone ∙ h u.0 x.0 ∙ true_at-first u others x.0 ∙ x.1))
        | inr le ↦
            let up : u.0 ≤ t.0 = search rules in
            let down : t.0 ≤ u.0 = search rules in
            let same : u.0 ≡ t.0 = omega (arith, up, down) in
            let at_first : (choice : Option ℕ) → true_at (u ∷ others) t.0 choice ≡ true_of u.1 choice =
            λ choice. subst (λ p. true_at (u ∷ others) p choice ≡ true_of u.1 choice) same (true_at-first u others choice) in
            let terms : t.1 ≡ u.1 = same_term t.1 u.1 s.0 r.0 (λ choice. sym (true_at-first t rest choice) ∙ h t.0 choice ∙ at_first choice) in
            let tail : OrderedFrom (suc t.0) others = subst (λ p. OrderedFrom (suc p) others) same g.2 in
            let later : (pkg : ℕ) (choice : Option ℕ) → true_at rest pkg choice ≡ true_at others pkg choice = λ pkg choice. elim (cases_Bool (nat_eq t.0 pkg)) [
              | inl e ↦
                  let here : t.0 ≡ pkg = eqb-true t.0 pkg e in
                  let under : pkg < suc t.0 = omega (arith, here) in
                  true_at-absent (suc t.0) pkg rest choice f.2 under ∙ sym (true_at-absent (suc t.0) pkg others choice tail under)
              | inr e ↦
                  let other : nat_eq u.0 pkg ≡ false = ap (λ p. nat_eq p pkg) same ∙ e in
                  sym (true_at-later t rest pkg choice e) ∙ h pkg choice ∙ true_at-later u others pkg choice other
            ] in
            (λ i. (sym same i, terms i) ∷ same_incompat (suc t.0) rest others f.2 tail s.1 r.1 later i)
      ]
    ]

-- what follows on a pivot is one incompatibility
pub same_resolvent : (c d i j : List (ℕ × Term)) (pivot : ℕ) → IsIncompat c → IsIncompat d → AreTerms c → AreTerms d → Follows c i j pivot → Follows d i j pivot → c ≡ d
same_resolvent c d i j pivot f g s r follows also = same_incompat 0 c d f g s r (λ pkg choice. follows pkg choice ∙ sym (also pkg choice))
