-- One turn of conflict resolution.
use Rattle.std.proofs.Common.{◌≡◌, ◌<◌, ◌≤◌, ◌∙◌, ℕ, sym, ap, subst, arith, true, List, [], ◌∷◌, ◌++◌, length, take, get_or}
use Rattle.std.proofs.lemmas.Option.{same_Some, slice_get_within, get_or_from_slice_get}
use Rattle.std.specs.Prelude.{Some, slice_get}
use Rattle.terms.specs.Incompats.{has_term, Follows, IsIncompat}
use Rattle.search.specs.declared.assignment.Assignment.{Assignment}
use Rattle.search.specs.declared.assignment.Why.TheVariants.{Decided, Derived}
use Rattle.search.specs.Assignments.{decided_by, IsPartial}
use Rattle.search.specs.Satisfying.{CanGoBack, IsSatisfier, LeavesAlmost, Satisfied}
use Rattle.registry.specs.Registry.{Packages}
use Rattle.registry.specs.Requests.{Wanted}
use Rattle.derivations.specs.CausedIncompatibilities.{FollowsFrom, IsResolved, StandsBy}
use Rattle.derivations.specs.Laws.{EmptyIsNoFact}
use Rattle.derivations.specs.declared.known.CausedIncompatibility.{CausedIncompatibility}
use Rattle.derivations.specs.declared.known.Reason.TheVariants.{Resolved}
use Rattle.std.specs.Prelude.{is_some}
use Rattle.facts.specs.Lines.{AtLine, IsRefusal}
use Rattle.search.specs.Searching.{IsCaused, IsCausedBy, IsResolving, IsSearch}
use Rattle.facts.proofs.Lists.{get-last}
use Rattle.search.proofs.Saying.{says-take}
use Rattle.search.proofs.Back.{prior_before, so_far, decision_above, root_only}
use Rattle.facts.proofs.Extending.{AreLines-push}
use Rattle.search.proofs.Kept.{IsSearch-line}

module _ (packages : Packages) (wanted : Wanted) (made : List Assignment) (known : List CausedIncompatibility) (at bound : ℕ) (m : IsResolving packages wanted made known at bound) where
  pub at_within : at < length known
  at_within = slice_get_within known at m.here.0 m.here.1

  module _ (line : CausedIncompatibility) (read : line ≡ get_or known at line) where
    same_line : m.here.0 ≡ line
    same_line = sym (get_or_from_slice_get known at m.here.0 line m.here.1) ∙ sym read

    here_line : slice_get known at ≡ Some line
    here_line = m.here.1 ∙ ap Some same_line

    pub satisfied_early : Satisfied (take bound made) line.conclusion
    satisfied_early = subst (λ l. Satisfied (take bound made) l.conclusion) same_line m.here.2

    pub satisfied : Satisfied made line.conclusion
    satisfied p c h = satisfied_early p c (says-take bound made p c h)

    pub refused_empty : EmptyIsNoFact → line.conclusion ≡ [] → IsRefusal packages wanted known at
    refused_empty law e = record {
      lawful = m.search.lines.lawful;
      ordered = m.search.lines.ordered;
      ends = law packages wanted known at line m.search.lines.lawful here_line e;
    }

    module _ (index level : ℕ) (found : IsSatisfier made line.conclusion index level) where
      pub satisfier_at : (a : Assignment) → a ≡ get_or made index a → slice_get made index ≡ Some a
      satisfier_at a is = found.at ∙ ap Some (sym (get_or_from_slice_get made index found.satisfier a found.at) ∙ sym is)

      pub back : (a : Assignment) → a ≡ get_or made index a → CanGoBack made line.conclusion index level → level < a.level → AtLine known at (λ l. LeavesAlmost made l.conclusion level)
      back a is can lt = (line, here_line, can a (satisfier_at a is) level (omega arith) lt)

      pub no_decision : (a : Assignment) (ordinal : ℕ) → a ≡ get_or made index a → IsPartial made → 2 ≤ index → a.why ≡ Decided ordinal → level < a.level
      no_decision a ordinal is h behind why =
          decision_above made line.conclusion index level a h m.search.begins found (satisfier_at a is) behind (ap (λ w. is_some (decided_by w)) why)

      cause_of : (a : Assignment) (cause : ℕ) → a ≡ get_or made index a → a.why ≡ Derived cause → IsCaused known (take index made) a cause
      cause_of a cause is why = subst (λ w. IsCausedBy packages wanted known (take index made) a w) why (m.search.caused index a (satisfier_at a is))

      pub cause_second : (a : Assignment) (cause : ℕ) → a ≡ get_or made index a → a.why ≡ Derived cause → AtLine known cause (λ l. has_term l.conclusion a.pkg ≡ true)
      cause_second a cause is why = let by = cause_of a cause is why in (by.line, by.at, by.on_package)

      -- the line that resolving gives
      module _ (next : CausedIncompatibility) (cause pivot : ℕ) (reason : next.reason ≡ Resolved at cause pivot) (follows : FollowsFrom known next.conclusion at cause pivot) (lawful : IsIncompat next.conclusion) where
        stands : StandsBy packages wanted known next.conclusion next.reason
        stands = subst (λ r. StandsBy packages wanted known next.conclusion r) (sym reason) follows

        pub next_search : IsSearch packages wanted made (known ++ next ∷ [])
        next_search = IsSearch-line packages wanted made known next m.search stands

        first_is : follows.one ≡ line
        first_is = same_Some follows.one line (sym follows.one_at ∙ here_line)

        from_line : Follows next.conclusion line.conclusion follows.two.conclusion pivot
        from_line = subst (λ l. Follows next.conclusion l.conclusion follows.two.conclusion pivot) first_is follows.follows

        pub refused_root : index < 2 → cause ≡ 0 → pivot ≡ 0 → IsRefusal packages wanted (known ++ next ∷ []) (length known)
        refused_root small no_cause no_pivot =
            let root = m.search.lines.root in
            let root_is : root.0 ≡ follows.two = same_Some root.0 follows.two (sym root.1 ∙ subst (λ k. slice_get known k ≡ Some follows.two) no_cause follows.two_at) in
            let lines = AreLines-push packages wanted known next m.search.lines stands in
            record {
              lawful = lines.lawful;
              ordered = lines.ordered;
              ends = record {
                line = next;
                at = get-last known next;
                resolved = subst IsResolved (sym reason) tt;
                empty = root_only made line.conclusion follows.two.conclusion next.conclusion index level m.search.begins found small (ap (λ l. l.conclusion) (sym root_is) ∙ root.2) lawful
                    (subst (λ q. Follows next.conclusion line.conclusion follows.two.conclusion q) no_pivot from_line);
              };
            }

        pub turn : (a : Assignment) → a ≡ get_or made index a → a.why ≡ Derived cause → pivot ≡ a.pkg → IsResolving packages wanted made (known ++ next ∷ []) (length known) index
        turn a is why on =
            let by : IsCaused known (take index made) a cause = cause_of a cause is why in
            let cause_is : by.line ≡ follows.two = same_Some by.line follows.two (sym by.at ∙ follows.two_at) in
            let from : Follows next.conclusion line.conclusion by.line.conclusion a.pkg =
            subst (λ q. Follows next.conclusion line.conclusion by.line.conclusion q) on (subst (λ l. Follows next.conclusion line.conclusion l.conclusion pivot) (sym cause_is) from_line) in
            record {
              search = next_search;
              here = (next, get-last known next, prior_before made index a line.conclusion by.line.conclusion next.conclusion (satisfier_at a is) (so_far made line.conclusion index level found) by.negation by.others from);
            }
