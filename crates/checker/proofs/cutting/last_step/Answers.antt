use Rattle.std.proofs.Common.{◌≡◌, ◌∙◌, ◌<◌, ℕ, List, [], ◌∷◌, ap, arith, get_or, inl, inr, length, refl, subst, sym}
use Rattle.std.proofs.lemmas.Bool.{iff_false}
use Rattle.std.proofs.lemmas.Option.{get_or_from_slice_get, slice_get_read, slice_get_within}
use Rattle.terms.specs.declared.term.Term.TheVariants.{In}
use Rattle.checker.specs.Cutting.{EndsBefore, SaysRootAlone}
use Rattle.checker.specs.Taking.{said_at, said_by}
use Rattle.derivations.specs.CausedIncompatibilities.{AreOrdered, EndsAt, IsResolved}
use Rattle.derivations.specs.declared.known.CausedIncompatibility.{CausedIncompatibility}
use Rattle.derivations.specs.declared.known.Reason.TheVariants.{Resolved}
use Rattle.checker.proofs.Walking.{before_by}
use Rattle.checker.proofs.cutting.last_step.Goals as goal

-- the first line that the end cites says only that the root is chosen
early : (known : List CausedIncompatibility) (end i j pivot : ℕ) (own before : CausedIncompatibility) → own ≡ get_or known end own → own.reason ≡ Resolved i j pivot → before ≡ get_or known i before
    → EndsBefore known end → (said_at known i ≡ (0, In (0 ∷ [])) ∷ []) × SaysRootAlone before
early known end i j pivot own before own_is reason before_is t =
    let own_same : own ≡ t.own = own_is ∙ get_or_from_slice_get known end t.own own t.at in
    let reasons : Resolved i j pivot ≡ Resolved t.i t.j t.pivot = sym reason ∙ ap (λ (k : CausedIncompatibility). k.reason) own_same ∙ t.reason in
    let place : i ≡ t.i = cc in
    let before_same : before ≡ t.before = before_is ∙ ap (λ m. get_or known m before) place ∙ get_or_from_slice_get known t.i t.before before t.before_at in
    (ap (said_at known) place ∙ ap said_by t.before_at ∙ t.says.1, subst SaysRootAlone (sym before_same) t.says)

-- the first line that the end cites stands among the lines
first_within : (known : List CausedIncompatibility) (end i j pivot : ℕ) (own : CausedIncompatibility) → AreOrdered known → EndsAt known end → own ≡ get_or known end own → own.reason ≡ Resolved i j pivot → i < length known
first_within known end i j pivot own ordered ends is reason =
    let within = slice_get_within known end ends.line ends.at in
    omega (arith, within, (before_by known end i j pivot own ordered within is reason).0)

pub bounds-known-end : goal.bounds-known-end
bounds-known-end c = slice_get_within c.args.known.now c.args.end c.requires.end.line c.requires.end.at

pub cites-i-requires : goal.cites-i-requires
cites-i-requires c =
    let ends = c.requires.end in
    subst (λ (line : CausedIncompatibility). IsResolved line.reason) (sym (c.index-known-end.is ∙ get_or_from_slice_get c.args.known.now c.args.end ends.line c.index-known-end.result ends.at)) ends.resolved

pub bounds-known-i : goal.bounds-known-i
bounds-known-i c =
    first_within c.args.known.now c.args.end c.cites-i.result.0 c.cites-i.result.1 c.cites-i.result.2 c.index-known-end.result c.requires.ordered c.requires.end c.index-known-end.is c.cites-i.ensures

pub returns-then-says_root_alone : goal.returns-then-says_root_alone
returns-then-says_root_alone c =
    let known = c.args.known.now in
    let within = first_within known c.args.end c.cites-i.result.0 c.cites-i.result.1 c.cites-i.result.2 c.index-known-end.result c.requires.ordered c.requires.end c.index-known-end.is c.cites-i.ensures in
    let says = c.says_root_alone.ensures.0 c.if-says_root_alone.true in
    record {
      ends = record {
        line = c.index-known-i.result;
        at = slice_get_read known (length known) c.cites-i.result.0 c.index-known-i.result refl within c.index-known-i.is;
        resolved = says.0;
        ended = inr says.1;
      };
      early = λ t.
          (early known c.args.end c.cites-i.result.0 c.cites-i.result.1 c.cites-i.result.2 c.index-known-end.result c.index-known-i.result c.index-known-end.is c.cites-i.ensures c.index-known-i.is t).0;
    }

pub returns : goal.returns
returns c =
    let ends = c.requires.end in
    record {
      ends = record { line = ends.line; at = ends.at; resolved = ends.resolved; ended = inl ends.empty };
      early = λ t.
          let says = (early c.args.known.now c.args.end c.cites-i.result.0 c.cites-i.result.1 c.cites-i.result.2 c.index-known-end.result c.index-known-i.result c.index-known-end.is c.cites-i.ensures c.index-known-i.is t).1 in
          absurd (iff_false c.says_root_alone.ensures c.if-says_root_alone.false says);
    }
