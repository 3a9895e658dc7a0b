use Rattle.std.proofs.Common.{◌≡◌, ◌∙◌, ap, sym, Bool, if◌then◌else◌}
use Rattle.terms.specs.declared.term.Term.TheVariants.{In, NotIn}
use Rattle.terms.proofs.LowTerms.{in-in, in-not_in, not_in-in, not_in-not_in}
use Rattle.terms.proofs.low_term.LowTerm.implies.Goals as goal

pub returns-in-true-true : goal.returns-in-true-true
returns-in-true-true c =
    let own : In c.self.inside.set ≡ c.args.self.now = ap (λ (is_in : Bool). if is_in then In c.self.inside.set else NotIn c.self.inside.set) (sym c.in-true-true.is-0) ∙ c.self.view_is in
    let other : In c.other.inside.set ≡ c.args.other.now = ap (λ (is_in : Bool). if is_in then In c.other.inside.set else NotIn c.other.inside.set) (sym c.in-true-true.is-1) ∙ c.other.view_is in
    rw (← own, ← other) (in-in c.self.inside.set c.other.inside.set c.first_only.result c.is_empty.result c.first_only.ensures c.is_empty.ensures)

pub returns-in-true-false : goal.returns-in-true-false
returns-in-true-false c =
    let own : In c.self.inside.set ≡ c.args.self.now = ap (λ (is_in : Bool). if is_in then In c.self.inside.set else NotIn c.self.inside.set) (sym c.in-true-false.is-0) ∙ c.self.view_is in
    let other : NotIn c.other.inside.set ≡ c.args.other.now = ap (λ (is_in : Bool). if is_in then In c.other.inside.set else NotIn c.other.inside.set) (sym c.in-true-false.is-1) ∙ c.other.view_is in
    rw (← own, ← other) (in-not_in c.self.inside.set c.other.inside.set c.both.result c.is_empty-in-true-false.result c.both.ensures c.is_empty-in-true-false.ensures)

pub returns-in-false-true : goal.returns-in-false-true
returns-in-false-true c =
    let own : NotIn c.self.inside.set ≡ c.args.self.now = ap (λ (is_in : Bool). if is_in then In c.self.inside.set else NotIn c.self.inside.set) (sym c.in-false-true.is-0) ∙ c.self.view_is in
    let other : In c.other.inside.set ≡ c.args.other.now = ap (λ (is_in : Bool). if is_in then In c.other.inside.set else NotIn c.other.inside.set) (sym c.in-false-true.is-1) ∙ c.other.view_is in
    rw (← own, ← other) (not_in-in c.self.inside.set c.other.inside.set)

pub returns-in-false-false : goal.returns-in-false-false
returns-in-false-false c =
    let own : NotIn c.self.inside.set ≡ c.args.self.now = ap (λ (is_in : Bool). if is_in then In c.self.inside.set else NotIn c.self.inside.set) (sym c.in-false-false.is-0) ∙ c.self.view_is in
    let other : NotIn c.other.inside.set ≡ c.args.other.now = ap (λ (is_in : Bool). if is_in then In c.other.inside.set else NotIn c.other.inside.set) (sym c.in-false-false.is-1) ∙ c.other.view_is in
    rw (← own, ← other) (not_in-not_in c.self.inside.set c.other.inside.set c.first_only-in-false-false.result c.is_empty-in-false-false.result c.first_only-in-false-false.ensures c.is_empty-in-false-false.ensures)
