-- The lines of a search, all of them written one after another: a derivation, where one has no terms.
use Rattle.std.proofs.Common.{◌≡◌, ◌∙◌, ◌<◌, inl, inr, ℕ, zero, suc, List, [], ◌∷◌, ◌++◌, length, arith, refl, sym, ap, subst}
use Rattle.std.proofs.lemmas.Bool.{cases_lt}
use Rattle.std.proofs.lemmas.Option.{same_Some}
use Rattle.std.specs.Prelude.{Option, None, Some, slice_get}
use Rattle.registry.specs.Laws.{MatchingIsWhatMeets}
use Rattle.registry.specs.Registry.{Packages}
use Rattle.registry.specs.Requests.{Wanted}
use Rattle.derivations.specs.Facts.{Terms}
use Rattle.derivations.specs.Derivations.{AreDerived, IsDerivation, IsDerivedBy, IsRefuted, Yields, conclusions}
use Rattle.derivations.specs.CausedIncompatibilities.{AreLawful, AreOrdered, FollowsFrom, IsBefore, IsResolved, StandsBy}
use Rattle.derivations.specs.Lines.{Cause, Line}
use Rattle.derivations.specs.declared.facts.Cause.TheVariants as cause
use Rattle.derivations.specs.declared.known.CausedIncompatibility.{CausedIncompatibility}
use Rattle.derivations.specs.declared.known.Reason.{Reason}
use Rattle.derivations.specs.declared.known.Reason.TheVariants.{Fact, Resolved}
use Rattle.derivations.proofs.Ends.{ends_at}
use Rattle.derivations.proofs.Soundness.{NoSelection-IsDerivation}
use Rattle.derivations.proofs.Pushed.{AreDerivedBy-push, conclusions-push, get-last, get-left, gives_fact, last-push}

-- a cause yields these terms after the lines
abbrev Gives : Packages → Wanted → List Line → Terms → Type 0
Gives packages wanted lines terms = (c : Cause) × Yields packages wanted (conclusions lines) c terms

-- the lines are derived from facts, and after them a cause yields what each line of the search before a place says
record AreWritten (packages : Packages) (wanted : Wanted) (known : List CausedIncompatibility) (bound : ℕ) : Type 0 where
  lines : List Line
  derived : AreDerived packages wanted [] lines
  each : (k : ℕ) (line : CausedIncompatibility) → k < bound → slice_get known k ≡ Some line → Gives packages wanted lines line.conclusion

yields_more : (packages : Packages) (wanted : Wanted) (earlier more : List Terms) (c : Cause) (terms : Terms) → Yields packages wanted earlier c terms → Yields packages wanted (earlier ++ more) c terms
yields_more packages wanted earlier more (cause.Line n) terms h = (h.0, h.1, get-left earlier more h.0 terms h.2)
yields_more packages wanted earlier more (cause.Premise p) terms h = h
yields_more packages wanted earlier more (cause.Need i) terms h = h
yields_more packages wanted earlier more (cause.NotAllowed p versions) terms h = h
yields_more packages wanted earlier more cause.Root terms h = h

gives_more : (packages : Packages) (wanted : Wanted) (lines : List Line) (line : Line) (terms : Terms) → Gives packages wanted lines terms → Gives packages wanted (lines ++ line ∷ []) terms
gives_more packages wanted lines line terms g =
    (g.0, subst (λ earlier. Yields packages wanted earlier g.0 terms) (sym (conclusions-push lines line)) (yields_more packages wanted (conclusions lines) (line.conclusion ∷ []) g.0 terms g.1))

gives_last : (packages : Packages) (wanted : Wanted) (lines : List Line) (line : Line) → Gives packages wanted (lines ++ line ∷ []) line.conclusion
gives_last packages wanted lines line =
    (cause.Line (suc (length (conclusions lines))), (length (conclusions lines), refl, ap (λ earlier. slice_get earlier (length (conclusions lines))) (conclusions-push lines line) ∙ get-last (conclusions lines) line.conclusion))

module _ (packages : Packages) (wanted : Wanted) (known : List CausedIncompatibility) (lawful : AreLawful packages wanted known) (ordered : AreOrdered known) where
  -- the lines, and one that follows from what two places say
  record AreFollowed (lines : List Line) (terms : Terms) : Type 0 where
    line : Line
    says : line.conclusion ≡ terms
    derived : AreDerived packages wanted [] (lines ++ line ∷ [])

  followed : (n : ℕ) (w : AreWritten packages wanted known n) (terms : Terms) (i j pivot : ℕ) → FollowsFrom known terms i j pivot → IsBefore n (Resolved i j pivot) → AreFollowed w.lines terms
  followed n w terms i j pivot h before =
      let first = w.each i h.one before.0 h.one_at in
      let second = w.each j h.two before.1 h.two_at in
      let line : Line = record { conclusion = terms; causes = (first.0, second.0); pivot = pivot } in
      let is : IsDerivedBy (Yields packages wanted (conclusions w.lines)) line = record { one = h.one.conclusion; two = h.two.conclusion; gives_one = first.1; gives_two = second.1; follows = record { on_pivot = h.on_pivot; follows = h.follows } } in
      record { line = line; says = refl; derived = AreDerivedBy-push (Yields packages wanted) [] w.lines line w.derived is }

  each_next : (n : ℕ) (lines : List Line) → ((k : ℕ) (line : CausedIncompatibility) → k < n → slice_get known k ≡ Some line → Gives packages wanted lines line.conclusion)
      → ((line : CausedIncompatibility) → slice_get known n ≡ Some line → Gives packages wanted lines line.conclusion)
      → (k : ℕ) (line : CausedIncompatibility) → k < suc n → slice_get known k ≡ Some line → Gives packages wanted lines line.conclusion
  each_next n lines below here k line lt at = elim (cases_lt k n) [
    | inl before ↦ below k line before at
    | inr after ↦
        let same : k ≡ n = omega (arith, lt, after) in
        here line (sym (ap (λ place. slice_get known place) same) ∙ at)
  ]

  written_next : (n : ℕ) → AreWritten packages wanted known n → (own : CausedIncompatibility) (terms : Terms) (reason : Reason) → slice_get known n ≡ Some own → own.conclusion ≡ terms → StandsBy packages wanted known terms reason → IsBefore n reason
      → AreWritten packages wanted known (suc n)
  written_next n w own terms (Fact c) at says h before = record {
    lines = w.lines;
    derived = w.derived;
    each = each_next n w.lines w.each (λ line there. subst (λ (one : CausedIncompatibility). Gives packages wanted w.lines one.conclusion) (same_Some own line (sym at ∙ there))
        (subst (Gives packages wanted w.lines) (sym says) (c, gives_fact packages wanted (conclusions w.lines) c terms h)));
  }
  written_next n w own terms (Resolved i j pivot) at says h before =
      let more = followed n w terms i j pivot h before in
      let last : Gives packages wanted (w.lines ++ more.line ∷ []) own.conclusion = subst (Gives packages wanted (w.lines ++ more.line ∷ [])) (more.says ∙ sym says) (gives_last packages wanted w.lines more.line) in
      record {
        lines = w.lines ++ more.line ∷ [];
        derived = more.derived;
        each = each_next n (w.lines ++ more.line ∷ []) (λ k line lt there. gives_more packages wanted w.lines more.line line.conclusion (w.each k line lt there))
            (λ line there. subst (λ (one : CausedIncompatibility). Gives packages wanted (w.lines ++ more.line ∷ []) one.conclusion) (same_Some own line (sym at ∙ there)) last);
      }

  written_by : (n : ℕ) → AreWritten packages wanted known n → (o : Option CausedIncompatibility) → slice_get known n ≡ o → AreWritten packages wanted known (suc n)
  written_by n w None none = record {
    lines = w.lines;
    derived = w.derived;
    each = each_next n w.lines w.each (λ line there. absurd (cc (sym none ∙ there)));
  }
  written_by n w (Some own) at = written_next n w own own.conclusion own.reason at refl (lawful n own at) (ordered n own at)

  written : (n : ℕ) → AreWritten packages wanted known n
  written zero = record { lines = []; derived = tt; each = λ k line lt at. absurd (omega (arith, lt)) }
  written (suc n) = written_by n (written n) (slice_get known n) refl

  ended_by : (end : ℕ) (terms : Terms) (reason : Reason) → StandsBy packages wanted known terms reason → IsBefore end reason → IsResolved reason → terms ≡ [] → (lines : List Line) × IsDerivation packages wanted lines
  ended_by end terms (Fact c) h before resolved empty = absurd resolved
  ended_by end terms (Resolved i j pivot) h before resolved empty =
      let w = written end in
      let more = followed end w terms i j pivot h before in
      (w.lines ++ more.line ∷ [], record { derived = more.derived; conclusion = more.line.conclusion; last = last-push w.lines more.line; ended = inl (more.says ∙ empty) })

  pub derivation_there : (end : ℕ) (line : CausedIncompatibility) → slice_get known end ≡ Some line → line.conclusion ≡ [] → (lines : List Line) × IsDerivation packages wanted lines
  derivation_there end line at empty =
      let ends = ends_at packages wanted known end line lawful at empty in
      ended_by end ends.line.conclusion ends.line.reason (lawful end ends.line ends.at) (ordered end ends.line ends.at) ends.resolved ends.empty

-- where one of them has no terms, there is a derivation, so that no selection meets the request
pub lines_refute : MatchingIsWhatMeets → (packages : Packages) (wanted : Wanted) (known : List CausedIncompatibility) (end : ℕ) (line : CausedIncompatibility) → AreLawful packages wanted known → AreOrdered known
    → slice_get known end ≡ Some line → line.conclusion ≡ [] → IsRefuted packages wanted
lines_refute matched packages wanted known end line lawful ordered at empty =
    let there = derivation_there packages wanted known lawful ordered end line at empty in
    record { lines = there.0; derivation = there.1; none = NoSelection-IsDerivation matched packages wanted there.0 there.1 }
