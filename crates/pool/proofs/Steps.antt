-- Each step of the jobs keeps their rule.
use Rattle.std.proofs.Common.{◌≡◌, ℕ, ◌+◌, ◌-◌, ◌<◌, ◌||◌, true, false, true≢false, List, [], ◌∷◌, ◌++◌, length, Option, Some, None, set, sym, refl, ap, ◌∙◌, subst, ⊎_elim, length-append, arith}
use mathlib.Core.Option.{some}
use lib.ListN.{get_elem?}
use Rattle.crossbeam_queue.specs.Fifo.{Pushes, Pops, Forks, Merges, Learns}
use Rattle.crossbeam_queue.proofs.Lists.{at_set}
use Rattle.pool.specs.declared.rule.Hand.{Hand}
use Rattle.pool.specs.Hands.{hand}
use Rattle.pool.specs.Sharing.{times, once, indexes, stops, total, Fits, Shares, IsShared, IsPut, IsTaken, IsAll, IsHeld, IsWaitedFor}
use Rattle.pool.proofs.Totals.{total_set, total_push, total_at, total_only, others_none, AllAt, all_set, all_push}
use Rattle.pool.proofs.Orders.{times_append, indexes_put, indexes_stop, stops_put, stops_stop, ordered_put, ordered_stop, once_next, once_has, cons_some, either_told, length_items}

-- the hand that has every part knows of every other that it is idle
module _ (count all_parts : ℕ) (items : List (Option ℕ)) (views : List Hand) (s : Shares count all_parts items views) (port : ℕ) (v : Hand) (at : get_elem? views port ≡ some v) (some_part : 0 < v.parts) (all : v.parts ≡ v.all_parts) where
  pub whole_is : total (λ u. u.parts) views ≡ v.parts
  whole_is = s.whole ∙ sym ((s.fits port v at).0 some_part).1 ∙ sym all

  pub taken_is : (i : ℕ) → total (λ u. times i u.taken) views ≡ times i v.taken
  taken_is i = total_only (λ u. times i u.taken) (λ u. u.parts) views port v at (λ j u e none. ap (times i) ((s.fits j u e).1 none).2) whole_is

  pub only_stops : total (λ u. u.stops) views ≡ v.stops
  only_stops = total_only (λ u. u.stops) (λ u. u.parts) views port v at (λ j u e none. ((s.fits j u e).1 none).0) whole_is

  pub only_sizes : total (λ u. length u.taken) views ≡ length v.taken
  only_sizes = total_only (λ u. length u.taken) (λ u. u.parts) views port v at (λ j u e none. ap (length {A = ℕ}) ((s.fits j u e).1 none).2) whole_is

  pub knows_count : v.count ≡ count
  knows_count = ((s.fits port v at).0 some_part).0

pub puts : (n port : ℕ) (v : Hand) → 0 < v.parts → v.parts ≡ v.all_parts → v.stops ≡ 0 → v.told ≡ false → Pushes IsShared n port v (Some v.count) (IsPut v (Some v.count))
puts n port v some_part all no_stop untold items views room h at =
    let count = h.0 in let all_parts = h.1 in let s = h.2 in let w : Hand = hand v.parts v.all_parts v.stops v.told (v.count + 1) v.taken in let items' = items ++ Some v.count ∷ [] in
    let same : v.count ≡ count = knows_count count all_parts items views s port v at some_part all in let mine = s.fits port v at in
    let parts = total_set (λ u. u.parts) views port v w at in
    let stops_set = total_set (λ u. u.stops) views port v w at in
    let none : stops items ≡ 0 = sym s.a_stop_each ∙ only_stops count all_parts items views s port v at some_part all ∙ no_stop in (
      w,
      (
        v.count + 1,
        all_parts,
        record {
          whole = let e = s.whole in omega arith;
          a_stop_each = let e = s.a_stop_each in let p = stops_put items v.count in omega arith;
          ordered = ordered_put items v.count none;
          sized = let e = s.sized in let t = total_set (λ u. length u.taken) views port v w at in let q = ap (length {A = ℕ}) (indexes_put items v.count) in omega (arith, length-append {A = ℕ});
          balanced = λ i.
              let b : once v.count i ≡ total (λ u. times i u.taken) views + times i (indexes items) = subst (λ (k : ℕ). once k i ≡ total (λ u. times i u.taken) views + times i (indexes items)) (sym same) (s.balanced i) in
              let t = total_set (λ u. times i u.taken) views port v w at in
              let q : times i (indexes items') ≡ times i (indexes items) + times i (v.count ∷ []) = ap (times i) (indexes_put items v.count) ∙ times_append i (indexes items) (v.count ∷ []) in
              let o = once_next v.count i in omega arith;
          fits = all_set (λ _. Fits (v.count + 1) all_parts items') views port w ((λ _. (refl, (mine.0 some_part).1)), (λ z. absurd (omega arith)), λ t. absurd (true≢false (sym t ∙ untold)))
              (λ j u other e.
              let f = s.fits j u e in
              let idle : u.parts ≡ 0 = others_none views port j v u at other e (whole_is count all_parts items views s port v at some_part all) in
              ((λ some_part. absurd (omega arith)), f.1, λ t. absurd (true≢false (sym t ∙ (f.1 idle).1))));
        },
      ),
      refl,
    )

-- the hand with every part puts a stop, and there is a part for each stop
pub puts_stop : (n port : ℕ) (v : Hand) → 0 < v.parts → v.parts ≡ v.all_parts → Pushes IsShared n port v None (IsPut v None)
puts_stop n port v some_part all items views room h at =
    let count = h.0 in let all_parts = h.1 in let s = h.2 in let w : Hand = hand (v.stops + 1) (v.stops + 1) (v.stops + 1) v.told v.count v.taken in let items' = items ++ None ∷ [] in
    let mine = s.fits port v at in
    let same : indexes items' ≡ indexes items = indexes_stop items in
    let whole = whole_is count all_parts items views s port v at some_part all in
    let parts = total_set (λ u. u.parts) views port v w at in
    let stops_set = total_set (λ u. u.stops) views port v w at in (
      w,
      (
        count,
        v.stops + 1,
        record {
          whole = omega arith;
          a_stop_each = let e = s.a_stop_each in let p = stops_stop items in omega arith;
          ordered = ordered_stop items s.ordered;
          sized = let e = s.sized in let t = total_set (λ u. length u.taken) views port v w at in let q = ap (length {A = ℕ}) same in omega arith;
          balanced = λ i. let b = s.balanced i in let t = total_set (λ u. times i u.taken) views port v w at in let q : times i (indexes items') ≡ times i (indexes items) = ap (times i) same in omega arith;
          fits = all_set (λ _. Fits count (v.stops + 1) items') views port w ((λ _. ((mine.0 some_part).0, refl)), (λ z. absurd (omega arith)), λ t. same ∙ mine.2 t)
              (λ j u other e.
              let f = s.fits j u e in let idle : u.parts ≡ 0 = others_none views port j v u at other e whole in
              ((λ p. absurd (omega arith)), f.1, λ t. same ∙ f.2 t));
        },
      ),
      refl,
    )

pub takes : (port : ℕ) (v : Hand) → 0 < v.parts → 0 < v.stops → v.told ≡ false → Pops IsShared port v (IsTaken v)
takes port v some_part a_stop untold (Some i) items views h at =
    let count = h.0 in let all_parts = h.1 in let s = h.2 in let w : Hand = hand v.parts v.all_parts v.stops v.told v.count (v.taken ++ i ∷ []) in
    let mine = s.fits port v at in
    let same = mine.0 some_part in let counts : v.count ≡ count = same.0 in
    let below : i < count = once_has count i (indexes items) (total (λ u. times i u.taken) views) (s.balanced i) in
    let parts = total_set (λ u. u.parts) views port v w at in
    let stops_set = total_set (λ u. u.stops) views port v w at in (
      w,
      (
        count,
        all_parts,
        record {
          whole = let e = s.whole in omega arith;
          a_stop_each = let e = s.a_stop_each in omega arith;
          ordered = s.ordered;
          sized = let e = s.sized in let t = total_set (λ u. length u.taken) views port v w at in omega (arith, length-append {A = ℕ});
          balanced = λ k. let b = s.balanced k in let t = total_set (λ u. times k u.taken) views port v w at in let q = times_append k v.taken (i ∷ []) in omega arith;
          fits = all_set (λ _. Fits count all_parts items) views port w ((λ _. same), (λ z. absurd (omega arith)), λ t. absurd (true≢false (sym t ∙ untold)))
              (λ j u other e. let f = s.fits j u e in (f.0, f.1, λ t. absurd (cons_some i (indexes items) (f.2 t))));
        },
      ),
      (let b : i < v.count = omega arith in b, refl),
    )
takes port v some_part a_stop untold None items views h at =
    let count = h.0 in let all_parts = h.1 in let s = h.2 in let w : Hand = hand v.parts v.all_parts (v.stops - 1) true v.count v.taken in
    let mine = s.fits port v at in
    let none_left : indexes items ≡ [] = s.ordered.0 in
    let parts = total_set (λ u. u.parts) views port v w at in
    let stops_set = total_set (λ u. u.stops) views port v w at in (
      w,
      (
        count,
        all_parts,
        record {
          whole = let e = s.whole in omega arith;
          a_stop_each = let e = s.a_stop_each in omega arith;
          ordered = s.ordered.1;
          sized = let e = s.sized in let t = total_set (λ u. length u.taken) views port v w at in omega arith;
          balanced = λ k. let b = s.balanced k in let t = total_set (λ u. times k u.taken) views port v w at in omega arith;
          fits = all_set (λ _. Fits count all_parts items) views port w (mine.0, (λ z. absurd (omega arith)), λ _. none_left)
              (λ j u other e. let f = s.fits j u e in (f.0, f.1, λ _. none_left));
        },
      ),
      refl,
    )

-- the queue has the stop of each hand that wasn't told
pub finds_stop : (port : ℕ) (v : Hand) → Learns IsShared port v (IsWaitedFor v)
finds_stop port v items views h at = let s = h.2 in let e = s.a_stop_each in let l = total_at (λ u. u.stops) views port v at in omega arith

pub deals : (port : ℕ) (v : Hand) → 1 < v.parts → 0 < v.stops → Forks IsShared port v (hand (v.parts - 1) v.all_parts (v.stops - 1) v.told v.count v.taken) (hand 1 v.all_parts 1 false v.count [])
deals port v parts_left a_stop items views h at =
    let count = h.0 in let all_parts = h.1 in let s = h.2 in let l : Hand = hand (v.parts - 1) v.all_parts (v.stops - 1) v.told v.count v.taken in let r : Hand = hand 1 v.all_parts 1 false v.count [] in
    let mine = s.fits port v at in let views' = set views port l in
    let same = mine.0 (omega arith) in
    let old : AllAt (λ _. Fits count all_parts items) views' = all_set (λ _. Fits count all_parts items) views port l ((λ _. same), (λ z. absurd (omega arith)), mine.2) (λ j u other e. s.fits j u e) in (
      count,
      all_parts,
      record {
        whole = let e = s.whole in let t = total_set (λ u. u.parts) views port v l at in let p = total_push (λ u. u.parts) views' r in omega arith;
        a_stop_each = let e = s.a_stop_each in let t = total_set (λ u. u.stops) views port v l at in let p = total_push (λ u. u.stops) views' r in omega arith;
        ordered = s.ordered;
        sized = let e = s.sized in let t = total_set (λ u. length u.taken) views port v l at in let p = total_push (λ u. length u.taken) views' r in omega arith;
        balanced = λ i. let b = s.balanced i in let t = total_set (λ u. times i u.taken) views port v l at in let p = total_push (λ u. times i u.taken) views' r in omega arith;
        fits = all_push (λ _. Fits count all_parts items) views' r (λ j. ((λ _. same), (λ z. absurd (omega arith)), λ t. absurd (true≢false (sym t)))) old;
      },
    )

pub gathers : (port : ℕ) (v : Hand) (other : ℕ) (u : Hand) → 0 < v.parts → Merges IsShared port v other u (hand (v.parts + u.parts) v.all_parts (v.stops + u.stops) (v.told || u.told) v.count (v.taken ++ u.taken)) (hand 0 0 0 false 0 [])
gathers port v other u some_part items views h at apart at' =
    let count = h.0 in let all_parts = h.1 in let s = h.2 in let both : Hand = hand (v.parts + u.parts) v.all_parts (v.stops + u.stops) (v.told || u.told) v.count (v.taken ++ u.taken) in let spent : Hand = hand 0 0 0 false 0 [] in
    let views' = set views port both in let mine = s.fits port v at in
    let was : get_elem? views other ≡ some u = ⊎_elim (λ x. absurd (apart x.0)) (λ x. x.1) (at_set views port other both u at') in let theirs = s.fits other u was in
    let now : AllAt (λ _. Fits count all_parts items) views' = all_set (λ _. Fits count all_parts items) views port both ((λ _. mine.0 some_part), (λ z. absurd (omega arith)), λ t. either_told v.told u.told (indexes items ≡ []) mine.2 theirs.2 t) (λ j y _ e. s.fits j y e) in (
      count,
      all_parts,
      record {
        whole = let e = s.whole in let t = total_set (λ y. y.parts) views port v both at in let p = total_set (λ y. y.parts) views' other u spent at' in omega arith;
        a_stop_each = let e = s.a_stop_each in let t = total_set (λ y. y.stops) views port v both at in let p = total_set (λ y. y.stops) views' other u spent at' in omega arith;
        ordered = s.ordered;
        sized = let e = s.sized in let t = total_set (λ y. length y.taken) views port v both at in let p = total_set (λ y. length y.taken) views' other u spent at' in omega (arith, length-append {A = ℕ});
        balanced = λ i. let b = s.balanced i in let t = total_set (λ y. times i y.taken) views port v both at in let p = total_set (λ y. times i y.taken) views' other u spent at' in let q = times_append i v.taken u.taken in omega arith;
        fits = all_set (λ _. Fits count all_parts items) views' other spent ((λ some. absurd (omega arith)), (λ _. (refl, refl, refl)), λ t. absurd (true≢false (sym t))) (λ j y _ e. now j y e);
      },
    )

pub ends : (port : ℕ) (v : Hand) → 0 < v.parts → v.parts ≡ v.all_parts → Learns IsShared port v (IsAll v)
ends port v some_part all items views h at =
    let count = h.0 in let all_parts = h.1 in let s = h.2 in
    let same : v.count ≡ count = knows_count count all_parts items views s port v at some_part all in (
      (λ i.
          let b : once v.count i ≡ total (λ u. times i u.taken) views + times i (indexes items) = subst (λ (k : ℕ). once k i ≡ total (λ u. times i u.taken) views + times i (indexes items)) (sym same) (s.balanced i) in
          let t = taken_is count all_parts items views s port v at some_part all i in omega arith),
      (s.fits port v at).2,
    )

pub puts_at : (n port : ℕ) (v : Hand) (k : ℕ) → k ≡ v.count → 0 < v.parts → v.parts ≡ v.all_parts → v.stops ≡ 0 → v.told ≡ false → Pushes IsShared n port v (Some k) (IsPut v (Some k))
puts_at n port v k same some_part all no_stop untold = subst (λ (i : ℕ). Pushes IsShared n port v (Some i) (IsPut v (Some i))) (sym same) (puts n port v some_part all no_stop untold)

pub rooms : (port : ℕ) (v : Hand) → 0 < v.parts → v.parts ≡ v.all_parts → Learns IsShared port v (IsHeld v)
rooms port v some_part all items views h at =
    let count = h.0 in let all_parts = h.1 in let s = h.2 in
    let same = knows_count count all_parts items views s port v at some_part all in
    let sizes = only_sizes count all_parts items views s port v at some_part all in
    let stops_left = only_stops count all_parts items views s port v at some_part all in
    let e = s.sized in let f = s.a_stop_each in let l = length_items items in omega arith
