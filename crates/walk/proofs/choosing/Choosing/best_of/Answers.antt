use Rattle.std.proofs.Common.{◌≡◌, rules, subst, true}
use Rattle.std.proofs.lemmas.Option.{IfSome_then}
use Rattle.terms.specs.Terms.{true_of}
use Rattle.terms.specs.declared.term.Term.{Term}
use Rattle.walk.specs.Newest.{OfEach}
use Rattle.walk.proofs.Bests.{best_only}
use Rattle.walk.proofs.Better.{best_other, best_unlocked, higher_out}
use Rattle.walk.proofs.choosing.Choosing.best_of.Goals as goal

pub returns-then-is_allowed : goal.returns-then-is_allowed
returns-then-is_allowed c =
    best_only c.args.registry.now.packages c.args.request.now c.args.self.now.found.entries c.args.pkg c.in-Some.only c.precedence_is_a_total_preorder.ensures
    (subst (λ (term : Term). OfEach c.args.registry.now.packages c.args.request.now c.args.self.now.found.entries (λ t. true_of term (t c.args.pkg) ≡ true)) c.in-Some.ensures c.requires.left)

pub returns-in-None : goal.returns-in-None
returns-in-None c =
    IfSome_then c.highest_where-highest.result c.highest_where-highest.ensures.some
    (λ k h. best_unlocked c.args.registry.now.packages c.args.request.now c.args.pkg k c.args.self.now.found.entries (rw c.in-None.is at c.locked_ordinal.ensures.none)
    (higher_out c.args.registry.now.packages c.args.request.now c.args.pkg k c.args.self.now.found.entries _ h (λ j fails. let out = fails in search rules)))

pub returns-else-is_open : goal.returns-else-is_open
returns-else-is_open c =
    IfSome_then c.highest_where-highest.result c.highest_where-highest.ensures.some
    (λ k h. best_other c.args.registry.now.packages c.args.request.now c.args.pkg k c.args.self.now.found.entries c.in-Some-locked_ordinal.locked (rw c.in-Some-locked_ordinal.is at c.locked_ordinal.ensures.some)
    (rw c.if-is_open.false at c.is_open.ensures) (higher_out c.args.registry.now.packages c.args.request.now c.args.pkg k c.args.self.now.found.entries _ h (λ j fails. let out = fails in search rules)))
