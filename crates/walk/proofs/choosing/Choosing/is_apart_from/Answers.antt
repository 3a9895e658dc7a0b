use Rattle.std.proofs.Common.{◌≡◌, ◌∙◌, sym, ap, subst, ℕ, List, true, true≢false}
use Rattle.std.proofs.lemmas.Bool.{and_from}
use Rattle.terms.specs.Sets.{has}
use Rattle.terms.specs.Terms.{true_of}
use Rattle.terms.specs.declared.term.Term.TheVariants.{In}
use Rattle.walk.specs.Newest.{OfEach}
use Rattle.walk.specs.Left.{term_of}
use Rattle.walk.specs.declared.left.Left.{Left}
use Rattle.walk.proofs.Bests.{left_read, none_both}
use Rattle.walk.proofs.choosing.Choosing.is_apart_from.Goals as goal

pub returns-in-Low : goal.returns-in-Low
returns-in-Low c = λ yes packages wanted h.
    let here = c.in-Some-place_of.ensures in
    let found = c.args.self.now.found.entries in
    let each = subst (λ (l : Left). OfEach packages wanted found (λ t. true_of (term_of l) (t c.args.pkg) ≡ true)) c.in-Low.is
    (left_read packages wanted c.args.self.now c.in-Some-place_of.place c.args.pkg here.0 c.index.result.now h here.1 here.2 c.index.ensures) in
    none_both packages wanted found c.args.pkg (In c.in-Low.left) c.args.set.now each (λ j said there.
    true≢false (sym (c.both.ensures j ∙ and_from (has c.in-Low.left j) (has c.args.set.now j) said there) ∙ ap (λ (l : List ℕ). has l j) (c.is_empty.ensures.0 yes)))
