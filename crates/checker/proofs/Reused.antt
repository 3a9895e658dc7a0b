-- What is taken from the store is lawful.
use Rattle.std.proofs.Common.{◌≡◌, ◌∙◌, ◌+◌, ◌≤◌, ◌||◌, ℕ, drop, true, List, [], ◌∷◌, ◌++◌, length, get_or, refl, sym, ap, subst, arith, inl, inr, length-append}
use Rattle.std.proofs.lemmas.List.{drop_all, drop_more, get_or_append_left, get_or_push}
use Rattle.std.proofs.lemmas.Option.{get_or_from_slice_get, none-some, same_Some, slice_get_within}
use Rattle.std.specs.Prelude.{Some, slice_get}
use Rattle.terms.specs.Incompats.{Follows, has_term}
use Rattle.registry.specs.Registry.{Packages}
use Rattle.derivations.specs.Facts.{Terms}
use Rattle.derivations.specs.Derivations.{AreDerivedBy}
use Rattle.derivations.specs.CausedIncompatibilities.{FollowsFrom}
use Rattle.derivations.specs.Learning.{AllStand, Offers}
use Rattle.derivations.specs.declared.known.CausedIncompatibility.{CausedIncompatibility}
use Rattle.derivations.specs.declared.known.Reason.TheVariants.{Resolved}
use Rattle.derivations.specs.Lines.{Line}
use Rattle.oracle.specs.declared.task.Task.{Task}
use Rattle.facts.specs.Pushing.{Extends, SaysAt}
use Rattle.checker.specs.Members.{AreAt, EndsSo, IsDerivedAt, IsForMember, IsGivenAt}
use Rattle.facts.specs.Lines.{Keeps}
use Rattle.facts.specs.Laws.{LinesGrow}
use Rattle.checker.proofs.Growing.{line_extends}
use Rattle.checker.proofs.Lists.{get-cases, get-last}

-- ---- lines that are there are there later

said_later : (old new : List CausedIncompatibility) (terms : Terms) (at : ℕ) → Keeps old new → SaysAt old terms at → SaysAt new terms at
said_later old new terms at keeps h = (h.0, keeps at h.0 h.1, h.2)

pub AreAt-later : (old new : List CausedIncompatibility) (said : List Terms) (places : List ℕ) → Keeps old new → AreAt old said places → AreAt new said places
AreAt-later old new said places keeps h = record { lengths = h.lengths; each = λ i terms e. said_later old new terms (get_or places i 0) keeps (h.each i terms e) }

-- one more that stands at its place
AreAt-push : (old new : List CausedIncompatibility) (said : List Terms) (places : List ℕ) (terms : Terms) (at : ℕ) → Keeps old new → AreAt old said places → SaysAt new terms at
    → AreAt new (said ++ terms ∷ []) (places ++ at ∷ [])
AreAt-push old new said places terms at keeps h here = record {
  lengths = length-append places (at ∷ []) ∙ ap (λ n. n + 1) h.lengths ∙ sym (length-append said (terms ∷ []));
  each = λ i t e. elim (get-cases said terms i t e) [
    | inl before ↦
        let within = slice_get_within said i t before in
        subst (λ n. SaysAt new t n) (sym (get_or_append_left places (at ∷ []) 0 i (omega (arith, within, h.lengths)))) (said_later old new t (get_or places i 0) keeps (h.each i t before))
    | inr last ↦
        subst (λ n. SaysAt new t n) (sym (get_or_push places at 0 i (h.lengths ∙ sym last.0))) (subst (λ u. SaysAt new u at) last.1 here)
  ];
}

-- ---- one line

module _ (task : Task) (old half both new : List CausedIncompatibility) (places : List ℕ) (line : Line) (i j : ℕ) (terms : Terms) (d : IsDerivedAt task.registry.now.packages old places line)
    (keeps_one : Keeps old half) (keeps_two : Keeps half both)
    (gives_one : (t : Terms) → IsGivenAt old places line.causes.0 t → SaysAt half t i)
    (gives_two : (t : Terms) → IsGivenAt half places line.causes.1 t → SaysAt both t j)
    (same : terms ≡ line.conclusion) (is : new ≡ both ++ record { conclusion = terms; reason = Resolved i j line.pivot } ∷ []) where
  line_follows : FollowsFrom both terms i j line.pivot
  line_follows =
      let one = d.derived.one in
      let two = d.derived.two in
      let at_i = said_later half both one i keeps_two (gives_one one (record { earlier = d.earlier; said = d.said; offers = d.derived.gives_one })) in
      let at_j = gives_two two (record { earlier = d.earlier; said = AreAt-later old half d.earlier places keeps_one d.said; offers = d.derived.gives_two }) in
      record {
        one = at_i.0;
        two = at_j.0;
        one_at = at_i.1;
        two_at = at_j.1;
        on_pivot = subst (λ t. (has_term at_i.0.conclusion line.pivot || has_term t line.pivot) ≡ true) (sym at_j.2)
            (subst (λ t. (has_term t line.pivot || has_term two line.pivot) ≡ true) (sym at_i.2) d.derived.follows.on_pivot);
        follows = subst (λ t. Follows t at_i.0.conclusion at_j.0.conclusion line.pivot) (sym same)
            (subst (λ t. Follows line.conclusion at_i.0.conclusion t line.pivot) (sym at_j.2)
            (subst (λ t. Follows line.conclusion t two line.pivot) (sym at_i.2) d.derived.follows.follows));
      }

  pub line_pushed : LinesGrow → Extends task both new × ((at : ℕ) → at ≡ length both → SaysAt new line.conclusion at)
  line_pushed grow =
      let own : CausedIncompatibility = record { conclusion = terms; reason = Resolved i j line.pivot } in
      (rw is (line_extends grow task both own line_follows), λ at place. rw (is, place) (own, get-last both own, same))

-- ---- all lines of a member

-- those that are left are derived from premises that stand and from what stands at the places
pub record AreLeft (packages : Packages) (known : List CausedIncompatibility) (places : List ℕ) (at : ℕ) (lines left : List Line) : Type 0 where
  pub earlier : List Terms
  pub said : AreAt known earlier places
  pub derived : AreDerivedBy Offers earlier left
  pub stand : AllStand packages left
  pub ends : EndsSo known at lines left

pub AreLeft-start : (packages : Packages) (known : List CausedIncompatibility) (places : List ℕ) (at : ℕ) (lines left : List Line) → places ≡ [] → left ≡ lines → AreDerivedBy Offers [] lines → AllStand packages lines
    → AreLeft packages known places at lines left
AreLeft-start packages known places at lines left none all derived stand = record {
  earlier = [];
  said = record { lengths = ap length none; each = λ i terms e. absurd (none-some terms e) };
  derived = subst (λ ls. AreDerivedBy Offers [] ls) (sym all) derived;
  stand = subst (λ ls. AllStand packages ls) (sym all) stand;
  ends = subst (λ ls. EndsSo known at lines ls) (sym all) (whole lines);
}
  where
    whole : (ls : List Line) → EndsSo known at ls ls
    whole [] = λ terms e. absurd (none-some terms e)
    whole (x ∷ rest) = refl

ends_next : (old new : List CausedIncompatibility) (at next : ℕ) (lines : List Line) (line : Line) (rest : List Line) → SaysAt new line.conclusion next → EndsSo old at lines (line ∷ rest) → EndsSo new next lines rest
ends_next old new at next lines line [] here e = λ terms last. subst (λ t. SaysAt new t next) (same_Some line.conclusion terms (e ∙ last)) here
ends_next old new at next lines line (y ∷ rest) here e = e

dropped : (lines : List Line) (i : ℕ) (line : Line) → slice_get lines i ≡ Some line → drop i lines ≡ line ∷ drop (i + 1) lines
dropped lines i line at = drop_more lines i line (slice_get_within lines i line at) ∙ ap (λ y. y ∷ drop (i + 1) lines) (get_or_from_slice_get lines i line line at)

pub AreLeft-at : (packages : Packages) (known : List CausedIncompatibility) (places : List ℕ) (at i : ℕ) (lines : List Line) (line : Line) → slice_get lines i ≡ Some line → AreLeft packages known places at lines (drop i lines)
    → IsDerivedAt packages known places line
AreLeft-at packages known places at i lines line here h =
    let left = subst (λ ls. AreLeft packages known places at lines ls) (dropped lines i line here) h in
    record { earlier = left.earlier; said = left.said; derived = left.derived.0; first = left.stand.0; second = left.stand.1 }

pub AreLeft-more : (packages : Packages) (old new : List CausedIncompatibility) (places more : List ℕ) (at next i : ℕ) (lines : List Line) (line : Line) → slice_get lines i ≡ Some line → Keeps old new
    → SaysAt new line.conclusion next → more ≡ places ++ next ∷ [] → AreLeft packages old places at lines (drop i lines) → AreLeft packages new more next lines (drop (i + 1) lines)
AreLeft-more packages old new places more at next i lines line there keeps here is h =
    let left = subst (λ ls. AreLeft packages old places at lines ls) (dropped lines i line there) h in
    record {
      earlier = left.earlier ++ line.conclusion ∷ [];
      said = subst (λ p. AreAt new (left.earlier ++ line.conclusion ∷ []) p) (sym is) (AreAt-push old new left.earlier places line.conclusion next keeps left.said here);
      derived = left.derived.1;
      stand = left.stand.2;
      ends = ends_next old new at next lines line (drop (i + 1) lines) here left.ends;
    }

pub AreLeft-end : (packages : Packages) (known : List CausedIncompatibility) (places : List ℕ) (at i : ℕ) (lines : List Line) → length lines ≤ i → AreLeft packages known places at lines (drop i lines) → IsForMember known lines at
AreLeft-end packages known places at i lines le h = (subst (λ ls. AreLeft packages known places at lines ls) (drop_all i lines le) h).ends
