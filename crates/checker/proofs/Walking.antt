-- The walk from the last line down to facts: what is written so far is derived.
use Rattle.std.proofs.Common.{◌≡◌, ◌<◌, ◌≤◌, ◌+◌, ◌*◌, ◌∙◌, ◌⊎◌, inl, inr, ℕ, zero, suc, List, [], ◌∷◌, ◌++◌, length, get_or, refl, sym, ap, subst, arith, true, false, ◌||◌, true≢false, append_assoc, length-append, reverse}
use Rattle.std.proofs.Math.ListN.{set, length-set}
use Rattle.std.proofs.lemmas.Bool.{cases_eq, eqb-true, eq-eqb}
use Rattle.std.proofs.lemmas.List.{append-nil, length_push, reverse-append, nil_from_length, get_or-set_same, get_or-set_other}
use Rattle.std.proofs.lemmas.Option.{same_Some, slice_get_within, slice_get_read, get_or_from_slice_get}
use Rattle.std.specs.Prelude.{Some, slice_get}
use Rattle.terms.specs.Incompats.{Follows, has_term}
use Rattle.registry.specs.Registry.{Packages}
use Rattle.registry.specs.Requests.{Wanted}
use Rattle.derivations.specs.Facts.{Terms}
use Rattle.derivations.specs.Derivations.{conclusions, AreDerivedBy, IsDerivedBy, AreDerived, IsDerivation, IsFact, Yields, last_conclusion}
use Rattle.derivations.specs.CausedIncompatibilities.{AreLawful, AreOrdered, IsBefore, FollowsFrom, IsResolved, StandsBy}
use Rattle.checker.specs.Cutting.{Cites, IsCitedLater, IsCauseOf, IsEndLine, IsLineFor, IsOpen, IsReady, IsResolvedAt, Reads, ShowsLine, cited, is_open}
use Rattle.derivations.specs.Lines.{Cause, Line}
use Rattle.derivations.specs.declared.facts.Cause.TheVariants as cause
use Rattle.derivations.specs.declared.known.CausedIncompatibility.{CausedIncompatibility}
use Rattle.derivations.specs.declared.known.Reason.{Reason}
use Rattle.derivations.specs.declared.known.Reason.TheVariants.{Fact, Resolved}
use Rattle.checker.proofs.Lists.{get-last, get-left}

-- ---- lists

pub length-conclusions : (lines : List Line) → length (conclusions lines) ≡ length lines
length-conclusions [] = refl
length-conclusions (line ∷ rest) = ap suc (length-conclusions rest)

pub conclusions-push : (lines : List Line) (line : Line) → conclusions (lines ++ line ∷ []) ≡ conclusions lines ++ line.conclusion ∷ []
conclusions-push [] line = refl
conclusions-push (x ∷ rest) line = ap (λ l. x.conclusion ∷ l) (conclusions-push rest line)

pub last-push : (lines : List Line) (line : Line) → last_conclusion (lines ++ line ∷ []) ≡ Some line.conclusion
last-push [] line = refl
last-push (x ∷ []) line = refl
last-push (x ∷ y ∷ rest) line = last-push (y ∷ rest) line

pub AreDerivedBy-push : (gives : List Terms → Cause → Terms → Type 0) (earlier : List Terms) (lines : List Line) (line : Line) → AreDerivedBy gives earlier lines
    → IsDerivedBy (gives (earlier ++ conclusions lines)) line → AreDerivedBy gives earlier (lines ++ line ∷ [])
AreDerivedBy-push gives earlier [] line h is = (subst (λ e. IsDerivedBy (gives e) line) (append-nil earlier) is, tt)
AreDerivedBy-push gives earlier (x ∷ rest) line h is =
    (h.0, AreDerivedBy-push gives (earlier ++ x.conclusion ∷ []) rest line h.1 (subst (λ e. IsDerivedBy (gives e) line) (sym (append_assoc earlier (x.conclusion ∷ []) (conclusions rest))) is))

-- ---- one line

-- where each line that has a number stands
abbrev pub AreNumbered : List CausedIncompatibility → List ℕ → List Terms → Type 0
AreNumbered known numbers earlier = (m n : ℕ) (line : CausedIncompatibility) → slice_get known m ≡ Some line → get_or numbers m 0 ≡ suc n → slice_get earlier n ≡ Some line.conclusion

pub gives_fact : (packages : Packages) (wanted : Wanted) (earlier : List Terms) (c : Cause) (terms : Terms) → IsFact packages wanted c terms → Yields packages wanted earlier c terms
gives_fact packages wanted earlier (cause.Line n) terms h = absurd h
gives_fact packages wanted earlier (cause.Premise p) terms h = h
gives_fact packages wanted earlier (cause.Need i) terms h = h
gives_fact packages wanted earlier (cause.NotAllowed p versions) terms h = h
gives_fact packages wanted earlier cause.Root terms h = h

gives_by : (packages : Packages) (wanted : Wanted) (known : List CausedIncompatibility) (earlier : List Terms) (reason : Reason) (number : ℕ) (terms : Terms) → StandsBy packages wanted known terms reason
    → is_open reason number ≡ false → ((n : ℕ) → number ≡ suc n → slice_get earlier n ≡ Some terms) → Yields packages wanted earlier (cited reason number) terms
gives_by packages wanted known earlier (Fact c) number terms stands shut at = gives_fact packages wanted earlier c terms stands
gives_by packages wanted known earlier (Resolved i j pivot) zero terms stands shut at = absurd (true≢false shut)
gives_by packages wanted known earlier (Resolved i j pivot) (suc n) terms stands shut at = (n, refl, at n refl)

derived_by : (packages : Packages) (wanted : Wanted) (known : List CausedIncompatibility) (numbers : List ℕ) (earlier : List Terms) (m : ℕ) (line : Line) → AreLawful packages wanted known
    → AreNumbered known numbers earlier → IsLineFor known numbers m line → IsDerivedBy (Yields packages wanted earlier) line
derived_by packages wanted known numbers earlier m line lawful numbered l =
    let r = l.ready in
    let f : FollowsFrom known r.own.conclusion r.i r.j r.pivot = subst (λ s. StandsBy packages wanted known r.own.conclusion s) r.reason (lawful m r.own r.own_at) in
    let same_one : f.one ≡ r.one = same_Some f.one r.one (sym f.one_at ∙ r.one_at) in
    let same_two : f.two ≡ r.two = same_Some f.two r.two (sym f.two_at ∙ r.two_at) in
    record {
      one = r.one.conclusion;
      two = r.two.conclusion;
      gives_one = subst (λ c. Yields packages wanted earlier c r.one.conclusion) (sym l.first)
          (gives_by packages wanted known earlier r.one.reason (get_or numbers r.i 0) r.one.conclusion (lawful r.i r.one r.one_at) r.ready_one (λ n e. numbered r.i n r.one r.one_at e));
      gives_two = subst (λ c. Yields packages wanted earlier c r.two.conclusion) (sym l.second)
          (gives_by packages wanted known earlier r.two.reason (get_or numbers r.j 0) r.two.conclusion (lawful r.j r.two r.two_at) r.ready_two (λ n e. numbered r.j n r.two r.two_at e));
      follows = record {
        on_pivot = subst (λ p. (has_term r.one.conclusion p || has_term r.two.conclusion p) ≡ true) (sym l.pivot)
            (subst (λ (k : CausedIncompatibility). (has_term r.one.conclusion r.pivot || has_term k.conclusion r.pivot) ≡ true) same_two
            (subst (λ (k : CausedIncompatibility). (has_term k.conclusion r.pivot || has_term f.two.conclusion r.pivot) ≡ true) same_one f.on_pivot));
        follows = subst (λ p. Follows line.conclusion r.one.conclusion r.two.conclusion p) (sym l.pivot)
            (subst (λ t. Follows t r.one.conclusion r.two.conclusion r.pivot) (sym l.conclusion)
            (subst (λ (k : CausedIncompatibility). Follows r.own.conclusion r.one.conclusion k.conclusion r.pivot) same_two
            (subst (λ (k : CausedIncompatibility). Follows r.own.conclusion k.conclusion f.two.conclusion r.pivot) same_one f.follows)));
      };
    }

-- ---- what the code reads

pub ready_by : (known : List CausedIncompatibility) (numbers : List ℕ) (at i j pivot : ℕ) (own one two : CausedIncompatibility) → AreOrdered known → at < length known → own ≡ get_or known at own → own.reason ≡ Resolved i j pivot
    → one ≡ get_or known i one → two ≡ get_or known j two → is_open one.reason (get_or numbers i 0) ≡ false → is_open two.reason (get_or numbers j 0) ≡ false → IsReady known numbers at
ready_by known numbers at i j pivot own one two ordered lt own_is reason one_is two_is shut_one shut_two =
    let own_at : slice_get known at ≡ Some own = slice_get_read known (length known) at own refl lt own_is in
    let before : IsBefore at (Resolved i j pivot) = subst (λ r. IsBefore at r) reason (ordered at own own_at) in
    record {
      own = own;
      one = one;
      two = two;
      i = i;
      j = j;
      pivot = pivot;
      own_at = own_at;
      one_at = slice_get_read known (length known) i one refl (omega (arith, before.0, lt)) one_is;
      two_at = slice_get_read known (length known) j two refl (omega (arith, before.1, lt)) two_is;
      reason = reason;
      ready_one = shut_one;
      ready_two = shut_two;
    }

-- the two that a line cites are its causes
pub causes_by : (known : List CausedIncompatibility) (at i j pivot : ℕ) (own : CausedIncompatibility) → at < length known → own ≡ get_or known at own → own.reason ≡ Resolved i j pivot → IsCauseOf known i at × IsCauseOf known j at
causes_by known at i j pivot own lt own_is reason =
    let own_at : slice_get known at ≡ Some own = slice_get_read known (length known) at own refl lt own_is in (
      record { line = own; at = own_at; reads = subst (λ r. Reads r i) (sym reason) (inl refl) },
      record { line = own; at = own_at; reads = subst (λ r. Reads r j) (sym reason) (inr refl) },
    )

pub before_by : (known : List CausedIncompatibility) (at i j pivot : ℕ) (own : CausedIncompatibility) → AreOrdered known → at < length known → own ≡ get_or known at own → own.reason ≡ Resolved i j pivot → (i < at) × (j < at)
before_by known at i j pivot own ordered lt own_is reason =
    subst (λ r. IsBefore at r) reason (ordered at own (slice_get_read known (length known) at own refl lt own_is))

pub open_by : (known : List CausedIncompatibility) (numbers : List ℕ) (m : ℕ) (line : CausedIncompatibility) → m < length known → line ≡ get_or known m line → is_open line.reason (get_or numbers m 0) ≡ true → IsOpen known numbers m
open_by known numbers m line lt is open_there = record { line = line; at = slice_get_read known (length known) m line refl lt is; open_there = open_there }

pub first_of_three : (a b i j p q : ℕ) → Resolved a i p ≡ Resolved b j q → (a ≡ b) × (i ≡ j) × (p ≡ q)
first_of_three a b i j p q e = (cc, cc, cc)

pub line_by : (known : List CausedIncompatibility) (numbers : List ℕ) (at i j pivot : ℕ) (own one two : CausedIncompatibility) (line : Line) → IsReady known numbers at → own ≡ get_or known at own → own.reason ≡ Resolved i j pivot
    → one ≡ get_or known i one → two ≡ get_or known j two → line.conclusion ≡ own.conclusion → line.pivot ≡ pivot
    → line.causes.0 ≡ cited one.reason (get_or numbers i 0) → line.causes.1 ≡ cited two.reason (get_or numbers j 0) → IsLineFor known numbers at line
line_by known numbers at i j pivot own one two line r own_is reason one_is two_is conclusion pivot_is first second =
    let own_same : own ≡ r.own = own_is ∙ get_or_from_slice_get known at r.own own r.own_at in
    let same = first_of_three i r.i j r.j pivot r.pivot (sym reason ∙ ap (λ (k : CausedIncompatibility). k.reason) own_same ∙ r.reason) in
    let one_same : one ≡ r.one = one_is ∙ ap (λ m. get_or known m one) same.0 ∙ get_or_from_slice_get known r.i r.one one r.one_at in
    let two_same : two ≡ r.two = two_is ∙ ap (λ m. get_or known m two) same.1 ∙ get_or_from_slice_get known r.j r.two two r.two_at in
    record {
      ready = r;
      conclusion = conclusion ∙ ap (λ (k : CausedIncompatibility). k.conclusion) own_same;
      pivot = pivot_is ∙ same.2;
      first = first ∙ ap (λ (k : CausedIncompatibility). cited k.reason (get_or numbers i 0)) one_same ∙ ap (λ m. cited r.one.reason (get_or numbers m 0)) same.0;
      second = second ∙ ap (λ (k : CausedIncompatibility). cited k.reason (get_or numbers j 0)) two_same ∙ ap (λ m. cited r.two.reason (get_or numbers m 0)) same.1;
    }

pub ready_within : (known : List CausedIncompatibility) (numbers : List ℕ) (at : ℕ) (r : IsReady known numbers at) → (at < length known) × (r.i < length known) × (r.j < length known)
ready_within known numbers at r = (slice_get_within known at r.own r.own_at, slice_get_within known r.i r.one r.one_at, slice_get_within known r.j r.two r.two_at)

-- ---- numbers

abbrev pub one_if_zero : ℕ → ℕ
one_if_zero zero = 1
one_if_zero (suc n) = 0

-- how many have no number yet
pub unnumbered : List ℕ → ℕ
unnumbered [] = 0
unnumbered (x ∷ xs) = one_if_zero x + unnumbered xs

unnumbered-set : (xs : List ℕ) (i v : ℕ) → i < length xs → get_or xs i 0 ≡ 0 → 0 < v → unnumbered (set xs i v) < unnumbered xs
unfolding unnumbered
unnumbered-set [] i v lt e some = absurd (omega arith)
unnumbered-set (zero ∷ xs) zero zero lt e some = absurd (omega arith)
unnumbered-set (zero ∷ xs) zero (suc v) lt e some = omega arith
unnumbered-set (suc x ∷ xs) zero v lt e some = absurd (omega arith)
unnumbered-set (x ∷ xs) (suc i) v lt e some = let less = unnumbered-set xs i v (omega arith) e some in omega (arith, less)

carry : (a b x y base : ℕ) → a < b → x < base → a * base + x < b * base + y
carry a b x y base lt less = grind arith

pub open_zero_by : (reason : Reason) (number : ℕ) → is_open reason number ≡ true → (number ≡ 0) × IsResolved reason
open_zero_by (Fact c) number e = absurd (true≢false (sym e))
open_zero_by (Resolved i j pivot) number e = (eqb-true number 0 e, tt)

pub open_zero : (known : List CausedIncompatibility) (numbers : List ℕ) (m : ℕ) → IsOpen known numbers m → get_or numbers m 0 ≡ 0
open_zero known numbers m o = (open_zero_by o.line.reason (get_or numbers m 0) o.open_there).0

pub open_within : (known : List CausedIncompatibility) (numbers : List ℕ) (m : ℕ) → IsOpen known numbers m → m < length known
open_within known numbers m o = slice_get_within known m o.line o.at

-- ---- the lines that wait for a cause, the nearest first
abbrev pub AreUsers : List CausedIncompatibility → List ℕ → ℕ → ℕ → List ℕ → Type 0
AreUsers known numbers end at [] = at ≡ end
AreUsers known numbers end at (user ∷ rest) = (at < user) × IsOpen known numbers user × AreUsers known numbers end user rest × IsCauseOf known at user

open_kept : (known : List CausedIncompatibility) (numbers : List ℕ) (m v u : ℕ) → m < u → IsOpen known numbers u → IsOpen known (set numbers m v) u
open_kept known numbers m v u lt o =
    record { line = o.line; at = o.at; open_there = ap (λ n. is_open o.line.reason n) (get_or-set_other numbers m u v 0 (λ e. omega (arith, lt, e))) ∙ o.open_there }

users_kept : (known : List CausedIncompatibility) (numbers : List ℕ) (m v end at : ℕ) (users : List ℕ) → m ≤ at → AreUsers known numbers end at users → AreUsers known (set numbers m v) end at users
users_kept known numbers m v end at [] le h = h
users_kept known numbers m v end at (u ∷ rest) le h =
    (h.0, open_kept known numbers m v u (omega (arith, h.0)) h.1, users_kept known numbers m v end u rest (omega (arith, h.0)) h.2, h.3)

-- ---- lines that are cited, and those that wait to be

-- the line at m is a cause of one of these
abbrev pub IsCauseOfSome : List CausedIncompatibility → ℕ → List ℕ → Type 0
IsCauseOfSome known m [] = ⊥
IsCauseOfSome known m (user ∷ rest) = IsCauseOf known m user ⊎ IsCauseOfSome known m rest

-- the line that was written at this place is that of a cause of one of these
pub record IsWanted (known : List CausedIncompatibility) (numbers : List ℕ) (place : ℕ) (users : List ℕ) : Type 0 where
  pub source : ℕ
  pub number : get_or numbers source 0 ≡ suc place
  pub cause_of : IsCauseOfSome known source users

-- each line that has a number is no fact
abbrev pub AreResolved : List CausedIncompatibility → List ℕ → Type 0
AreResolved known numbers = (m n : ℕ) (line : CausedIncompatibility) → slice_get known m ≡ Some line → get_or numbers m 0 ≡ suc n → IsResolved line.reason

cited_resolved : (reason : Reason) (number : ℕ) → IsResolved reason → cited reason number ≡ cause.Line number
cited_resolved (Fact c) number is = absurd is
cited_resolved (Resolved i j pivot) number is = refl

cited_kept : (lines : List Line) (line : Line) (place : ℕ) → IsCitedLater lines place → IsCitedLater (lines ++ line ∷ []) place
cited_kept lines line place c = record { later = c.later; line = c.line; after = c.after; at = get-left lines (line ∷ []) c.later c.line c.at; cites = c.cites }

reads_ready : (known : List CausedIncompatibility) (numbers : List ℕ) (m at : ℕ) (r : IsReady known numbers at) → IsCauseOf known m at → (r.i ≡ m) ⊎ (r.j ≡ m)
reads_ready known numbers m at r c =
    let own : c.line ≡ r.own = same_Some c.line r.own (sym c.at ∙ r.own_at) in
    let reads : Reads r.own.reason m = subst (λ (k : CausedIncompatibility). Reads k.reason m) own c.reads in
    subst (λ reason. Reads reason m) r.reason reads

-- what waits for the line that is written is cited by it
cites_written : (known : List CausedIncompatibility) (numbers : List ℕ) (at m place : ℕ) (line : Line) (l : IsLineFor known numbers at line) → AreResolved known numbers
    → get_or numbers m 0 ≡ suc place → IsCauseOf known m at → Cites line (suc place)
cites_written known numbers at m place line l resolved number c = elim (reads_ready known numbers m at l.ready c) [
  | inl is ↦
      let own : IsResolved l.ready.one.reason = resolved m place l.ready.one (ap (slice_get known) (sym is) ∙ l.ready.one_at) number in
      inl (l.first ∙ cited_resolved l.ready.one.reason (get_or numbers l.ready.i 0) own ∙ ap cause.Line (ap (λ k. get_or numbers k 0) is ∙ number))
  | inr is ↦
      let own : IsResolved l.ready.two.reason = resolved m place l.ready.two (ap (slice_get known) (sym is) ∙ l.ready.two_at) number in
      inr (l.second ∙ cited_resolved l.ready.two.reason (get_or numbers l.ready.j 0) own ∙ ap cause.Line (ap (λ k. get_or numbers k 0) is ∙ number))
]

-- ---- the walk

pub record IsWalk (known : List CausedIncompatibility) (end : ℕ) (numbers : List ℕ) (lines : List Line) (users : List ℕ) (at : ℕ) : Type 0 where
  pub lengths : length numbers ≡ length known
  pub here : IsOpen known numbers at
  pub waiting : AreUsers known numbers end at users
  pub numbered : AreNumbered known numbers (conclusions lines)
  pub resolved : AreResolved known numbers
  pub derived : (packages : Packages) (wanted : Wanted) → AreLawful packages wanted known → AreDerived packages wanted [] lines
  pub wanted : (place : ℕ) → place < length lines → IsCitedLater lines place ⊎ IsWanted known numbers place (at ∷ users)

pub record IsWritten (known : List CausedIncompatibility) (end : ℕ) (numbers : List ℕ) (lines : List Line) (users : List ℕ) (at : ℕ) : Type 0 where
  pub lengths : length numbers ≡ length known
  pub waiting : AreUsers known numbers end at users
  pub numbered : AreNumbered known numbers (conclusions lines)
  pub resolved : AreResolved known numbers
  pub derived : (packages : Packages) (wanted : Wanted) → AreLawful packages wanted known → AreDerived packages wanted [] lines
  pub own : CausedIncompatibility
  pub own_at : slice_get known at ≡ Some own
  pub last : last_conclusion lines ≡ Some own.conclusion
  pub own_number : get_or numbers at 0 ≡ length lines
  pub wanted : (place : ℕ) → suc place < length lines → IsCitedLater lines place ⊎ IsWanted known numbers place users

pub start : (known : List CausedIncompatibility) (end : ℕ) (numbers : List ℕ) → length numbers ≡ length known → ((k : ℕ) → get_or numbers k 0 ≡ 0) → IsResolvedAt known end → IsWalk known end numbers [] [] end
start known end numbers lengths zeros e = record {
  lengths = lengths;
  here = record { line = e.line; at = e.at; open_there = open_by e.line.reason (get_or numbers end 0) e.resolved (zeros end) };
  waiting = refl;
  numbered = λ m n line at is. absurd (omega (arith, zeros m, is));
  resolved = λ m n line at is. absurd (omega (arith, zeros m, is));
  derived = λ packages wanted lawful. tt;
  wanted = λ place lt. absurd (omega (arith, lt));
}
  where
    open_by : (reason : Reason) (number : ℕ) → IsResolved reason → number ≡ 0 → is_open reason number ≡ true
    open_by (Fact c) number is e = absurd is
    open_by (Resolved i j pivot) number is e = eq-eqb number 0 e

pub write : (known : List CausedIncompatibility) (end : ℕ) (numbers : List ℕ) (lines : List Line) (users : List ℕ) (at : ℕ) (line : Line) (number : ℕ) → IsWalk known end numbers lines users at → IsLineFor known numbers at line
    → number ≡ suc (length lines) → IsWritten known end (set numbers at number) (lines ++ line ∷ []) users at
write known end numbers lines users at line number w l is = record {
  lengths = length-set numbers at number ∙ w.lengths;
  waiting = users_kept known numbers at number end at users (omega arith) w.waiting;
  numbered = λ m n k k_at e. subst (λ earlier. slice_get earlier n ≡ Some k.conclusion) (sym (conclusions-push lines line)) (elim (cases_eq m at) [
    | inr apart ↦ get-left (conclusions lines) (line.conclusion ∷ []) n k.conclusion (w.numbered m n k k_at (sym (get_or-set_other numbers at m number 0 apart) ∙ e))
    | inl same ↦
        let own : k ≡ l.ready.own = same_Some k l.ready.own (sym k_at ∙ ap (slice_get known) same ∙ l.ready.own_at) in
        let read : get_or (set numbers at number) m 0 ≡ number = ap (λ x. get_or (set numbers at number) x 0) same ∙ here in
        let place : n ≡ length (conclusions lines) = omega (arith, read, e, is, length-conclusions lines) in
        subst (λ p. slice_get (conclusions lines ++ line.conclusion ∷ []) p ≡ Some k.conclusion) (sym place)
        (get-last (conclusions lines) line.conclusion ∙ ap Some (l.conclusion ∙ ap (λ (x : CausedIncompatibility). x.conclusion) (sym own)))
  ]);
  resolved = λ m n k k_at e. elim (cases_eq m at) [
    | inr apart ↦ w.resolved m n k k_at (sym (get_or-set_other numbers at m number 0 apart) ∙ e)
    | inl same ↦
        let own : k ≡ l.ready.own = same_Some k l.ready.own (sym k_at ∙ ap (slice_get known) same ∙ l.ready.own_at) in
        subst (λ (x : CausedIncompatibility). IsResolved x.reason) (sym own) (subst (λ reason. IsResolved reason) (sym l.ready.reason) tt)
  ];
  derived = λ packages wanted lawful. AreDerivedBy-push (Yields packages wanted) [] lines line (w.derived packages wanted lawful) (derived_by packages wanted known numbers (conclusions lines) at line lawful w.numbered l);
  own = l.ready.own;
  own_at = l.ready.own_at;
  last = last-push lines line ∙ ap Some l.conclusion;
  own_number = here ∙ is ∙ sym size;
  wanted = λ place lt. still place (omega (arith, lt, size)) (w.wanted place (omega (arith, lt, size)));
}
  where
    within : at < length numbers
    within = omega (arith, open_within known numbers at w.here, w.lengths)

    here : get_or (set numbers at number) at 0 ≡ number
    here = get_or-set_same numbers at number 0 within

    size : length (lines ++ line ∷ []) ≡ suc (length lines)
    size = omega (arith, length-append lines (line ∷ []))

    still : (place : ℕ) → place < length lines → IsCitedLater lines place ⊎ IsWanted known numbers place (at ∷ users)
        → IsCitedLater (lines ++ line ∷ []) place ⊎ IsWanted known (set numbers at number) place users
    still place lt (inl c) = inl (cited_kept lines line place c)
    still place lt (inr want) = elim want.cause_of [
      | inl of_own ↦ inl (record {
        later = length lines;
        line = line;
        after = lt;
        at = get-last lines line;
        cites = cites_written known numbers at want.source place line l w.resolved want.number of_own;
      })
      | inr of_user ↦ inr (record {
        source = want.source;
        number = get_or-set_other numbers at want.source number 0 (λ e. omega (arith, want.number, ap (λ m. get_or numbers m 0) e, open_zero known numbers at w.here)) ∙ want.number;
        cause_of = of_user;
      })
    ]

pub up : (known : List CausedIncompatibility) (end : ℕ) (numbers : List ℕ) (lines : List Line) (users : List ℕ) (at user : ℕ) → IsWritten known end numbers lines (user ∷ users) at → IsWalk known end numbers lines users user
up known end numbers lines users at user w = record {
  lengths = w.lengths;
  here = w.waiting.1;
  waiting = w.waiting.2;
  numbered = w.numbered;
  resolved = w.resolved;
  derived = w.derived;
  wanted = λ place lt. elim (cases_eq (suc place) (length lines)) [
    | inl last ↦ inr (record { source = at; number = w.own_number ∙ sym last; cause_of = inl w.waiting.3 })
    | inr before ↦ w.wanted place (omega (arith, lt, before))
  ];
}

-- what shows an end is a derivation
pub derivation_by : (known : List CausedIncompatibility) (end : ℕ) (lines : List Line) → ShowsLine known end lines → IsEndLine known end → (packages : Packages) (wanted : Wanted) → AreLawful packages wanted known → IsDerivation packages wanted lines
derivation_by known end lines shows e packages wanted lawful = record {
  derived = shows.derived packages wanted lawful;
  conclusion = e.line.conclusion;
  last = shows.last ∙ ap (λ (k : CausedIncompatibility). Some k.conclusion) (same_Some shows.own e.line (sym shows.own_at ∙ e.at));
  ended = e.ended;
}

pub reverse-push : (xs : List ℕ) (x : ℕ) → reverse (xs ++ x ∷ []) ≡ x ∷ reverse xs
reverse-push xs x = reverse-append xs (x ∷ [])

-- the answers of the walk's loop
module _ (known : List CausedIncompatibility) (end : ℕ) (numbers : List ℕ) (lines : List Line) (users : List ℕ) (at : ℕ) (w : IsWalk known end numbers lines (reverse users) at)
    (numbers' : List ℕ) (line : Line) (l : IsLineFor known numbers' at line) (same : numbers' ≡ numbers) (lines' : List Line) (lines_are : lines' ≡ lines ++ line ∷ []) (number : ℕ) (is : number ≡ length lines') where
  written : IsWritten known end (set numbers at number) lines' (reverse users) at
  written =
      subst (λ ls. IsWritten known end (set numbers at number) ls (reverse users) at) (sym lines_are)
      (write known end numbers lines (reverse users) at line number w (subst (λ n. IsLineFor known n at line) same l)
      (omega (arith, is, ap length lines_are, length_push lines line)))

  pub ends : length users ≡ 0 → ShowsLine known end lines'
  ends none =
      let w = subst (λ us. IsWritten known end (set numbers at number) lines' (reverse us) at) (nil_from_length users none) written in
      record {
        derived = w.derived;
        own = w.own;
        own_at = subst (λ place. slice_get known place ≡ Some w.own) w.waiting w.own_at;
        last = w.last;
        cited = λ place lt. elim (w.wanted place lt) [ inl c ↦ c | inr none ↦ absurd none.cause_of ];
      }

  pub goes_up : (rest : List ℕ) (user : ℕ) → users ≡ rest ++ user ∷ [] → IsWalk known end (set numbers at number) lines' (reverse rest) user
  goes_up rest user popped =
      up known end (set numbers at number) lines' (reverse rest) at user (subst (λ us. IsWritten known end (set numbers at number) lines' us at) (ap reverse popped ∙ reverse-push rest user) written)

-- the measure of the walk
abbrev pub left : List CausedIncompatibility → List ℕ → ℕ → ℕ
left known numbers at = unnumbered numbers * length known + at

pub falls_up : (known : List CausedIncompatibility) (end : ℕ) (numbers : List ℕ) (lines : List Line) (users : List ℕ) (at : ℕ) → IsWalk known end numbers lines (reverse users) at
    → (rest : List ℕ) (user number : ℕ) → users ≡ rest ++ user ∷ [] → 0 < number → left known (set numbers at number) user < left known numbers at
falls_up known end numbers lines users at w rest user number popped some =
    let users_are : reverse users ≡ user ∷ reverse rest = ap reverse popped ∙ reverse-push rest user in
    let waiting : AreUsers known numbers end at (user ∷ reverse rest) = subst (λ us. AreUsers known numbers end at us) users_are w.waiting in
    carry (unnumbered (set numbers at number)) (unnumbered numbers) user at (length known)
    (unnumbered-set numbers at number (omega (arith, open_within known numbers at w.here, w.lengths)) (open_zero known numbers at w.here) some)
    (open_within known numbers user waiting.1)

pub some_pushed : {A : Type 0} (xs : List A) (x : A) (pushed : List A) → pushed ≡ xs ++ x ∷ [] → 0 < length pushed
some_pushed xs x pushed e = omega (arith, ap length e ∙ length-append xs (x ∷ []))

-- the walk goes down to a cause that is still to be written
pub goes_down : (known : List CausedIncompatibility) (end : ℕ) (numbers : List ℕ) (lines : List Line) (users : List ℕ) (at : ℕ) → IsWalk known end numbers lines (reverse users) at → (numbers' : List ℕ) → numbers' ≡ numbers
    → (m : ℕ) → IsOpen known numbers' m → m < at → IsCauseOf known m at → (users' : List ℕ) → users' ≡ users ++ at ∷ [] → IsWalk known end numbers lines (reverse users') m
goes_down known end numbers lines users at w numbers' same m open_there lt cause_of users' pushed =
    subst (λ us. IsWalk known end numbers lines us m) (sym (ap reverse pushed ∙ reverse-push users at)) (record {
      lengths = w.lengths;
      here = subst (λ n. IsOpen known n m) same open_there;
      waiting = (lt, w.here, w.waiting, cause_of);
      numbered = w.numbered;
      resolved = w.resolved;
      derived = w.derived;
      wanted = λ place h. elim (w.wanted place h) [
        | inl c ↦ inl c
        | inr still ↦ inr (record { source = still.source; number = still.number; cause_of = inr still.cause_of })
      ];
    })
