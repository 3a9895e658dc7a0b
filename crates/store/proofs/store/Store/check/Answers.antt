use Rattle.std.proofs.Common.{◌∙◌, ap, arith, length, sym}
use Rattle.std.proofs.lemmas.Bool.{iff_false, le-leb, lt-leb}
use Rattle.store.specs.declared.store.TheConstants.{STORE_LIMIT}
use Rattle.store.specs.Stored.{Stored, has_conclusion, terms_or_none}
use Rattle.store.proofs.Concluding.{is_known, is_new, is_stale}
use Rattle.store.proofs.store.Store.check.Goals as goal

pub returns-then-not-stands-clause-refused : goal.returns-then-not-stands-clause-refused
returns-then-not-stands-clause-refused c =
    is_stale c.matching_is_what_meets.ensures c.args.registry.now.packages c.args.self.now.members c.args.learnt.now (iff_false c.stands.ensures.exact c.if-not-stands.true)

pub returns-then-has-clause-refused : goal.returns-then-has-clause-refused
returns-then-has-clause-refused c =
    is_known c.matching_is_what_meets.ensures c.args.registry.now.packages c.args.self.now.members c.args.learnt.now (c.stands.ensures.exact.0 c.if-not-stands.false)
    (ap (has_conclusion c.args.self.now.members) (ap terms_or_none c.conclusion.ensures) ∙ sym c.has.ensures ∙ c.if-has.true)

pub returns-then-self-ge-STORE_LIMIT-clause-refused : goal.returns-then-self-ge-STORE_LIMIT-clause-refused
returns-then-self-ge-STORE_LIMIT-clause-refused c =
    is_new c.matching_is_what_meets.ensures c.args.registry.now.packages c.args.self.now.members c.args.learnt.now _ (c.stands.ensures.exact.0 c.if-not-stands.false)
    (ap (has_conclusion c.args.self.now.members) (ap terms_or_none c.conclusion.ensures) ∙ sym c.has.ensures ∙ c.if-has.false)
    (le-leb STORE_LIMIT (length c.args.self.now.members) (omega (arith, c.self.invariant.counted, ap (λ (s : Stored). length s.members) c.self.view_is)))

pub returns-clause-accepted : goal.returns-clause-accepted
returns-clause-accepted c =
    is_new c.matching_is_what_meets.ensures c.args.registry.now.packages c.args.self.now.members c.args.learnt.now _ (c.stands.ensures.exact.0 c.if-not-stands.false)
    (ap (has_conclusion c.args.self.now.members) (ap terms_or_none c.conclusion.ensures) ∙ sym c.has.ensures ∙ c.if-has.false)
    (lt-leb STORE_LIMIT (length c.args.self.now.members) (omega (arith, c.self.invariant.counted, ap (λ (s : Stored). length s.members) c.self.view_is)))
