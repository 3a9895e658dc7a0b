-- `into_loose` puts the pointer beside the handle of the allocator.
use Rattle.std.proofs.Common.{◌≡◌, List, [], ◌∷◌, ◌++◌, refl, true, Option, Some}
use mir.Syntax.{impl, tnil, dnil}
use mir.Raw.{raw as bare}
use mir.Val.{Val, vptr}
use base.Logic.{SProp, emp, never, fst∗}
use prog.Wp.{WpFn}
use types.Logic.{sem}
use contract.Monad.{fact, fact_i}
use contract.Running.{tables}
use types.Kit.{‵, raw, ◌⊛◌, prop, ◌$◌, ◌∵◌, !, qed, by, move, keep, drop, use0, split, regoal, rewrite, fsplit, fsplit3, fjoin}
use types.Part.{whole, sub, agg}
use types.Run.{stop, fld, of_opd, no_more, and_then, returns, enter}
use types.ByLocal.{alloc_all, pass_all, free_all, look_at, get, get_in, sets}
use denote.RattleType.{RattleType, owns}
use denote.Memory.{lone}
use denote.RawPtr.{Ptr, block_ptr, null_ptr, in_a_block}
use denote.Signature.{types_at, plain}
use denote.Steps.{nothing, heard}
use denote.Triple.Entry.{alive}
use denote.Triple.Walked.{Stays, stay_dropped, walk_of, Goes-dropped}
use Rattle.core.proofs.alloc.Calls.{Al, Goes-blank, handle_tells}
use Rattle.std.specs.Box.Ownership.{box_owns}
use Rattle.std.proofs.raw_atomic.Walks.{proved_at, leaves}
use Rattle.std.specs.contracts.alloc.Global as heap
use Rattle.std.proofs.alloc.Global.TheLaws as heap_laws
use Rattle.std_heap.specs.contracts.GlobalAllocator.TheImpl.{ghosts}
use Rattle.embedded.proofs.LooseValues.{both, loose_good, loose_in}
use Rattle.race.specs.contracts.seated.Seated as seated
use Rattle.embedded.specs.Held.{held, is_held}
use Rattle.embedded.specs.contracts.seat_handle.HeldSeat as handle
use Rattle.embedded.proofs.Handles.{handle_val, handle_told, some_of}
use Rattle.embedded.specs.contracts.seat_handle.HeldSeat.into_loose.{ended, clauses}
use Rattle.embedded.specs.contracts.seat_handle.HeldSeat.into_loose.Key.{name as #self}
use Rattle.embedded.proofs.seat_handle.HeldSeat.into_loose.Statement.{statement}
use Rattle.embedded.proofs.seat_handle.HeldSeat.into_loose.Code as code

pub into_loose_spec : {M : Type 1} → statement M
into_loose_spec 𝓤 𝓛 𝓜 𝓡 wired =
    let H = 𝓛.H in let 𝓣 = tables 𝓤 H 𝓜 𝓡 𝓡.env in let En = ended in let c = clauses 𝓛 𝓜.mem 𝓡.returns in let fn = code.function in
    let R : RattleType = seated.the_row in let Z : RattleType = heap.the_row in let LZ = heap_laws.the_row_laws in
    let al : Al = record { row = Z; laws = LZ; g = ghosts; d = impl [] tnil dnil; drops = impl [] tnil dnil } in
    let hs : Stays En.signature.params En.kept = (stay_dropped (plain (λ _. handle.the_row)) En.kept.0, (stay_dropped (plain (λ _. Z)) En.kept.1.0, tt)) in
    proved_at 𝓛 En hs c 𝓜 𝓡 (Goes-blank 𝓛 0 (plain (λ _. handle.the_row)) En.kept.0 (λ κs x f. tt), (Goes-dropped 𝓛 0 (plain (λ _. Z)) En.kept.1.0 (λ κs x f. refl), tt)) #self fn (code.unfolded 𝓤 H 𝓜 𝓡 wired) (λ z are.
    let Post : Val → SProp 𝓤 = (walk_of 𝓛 En hs c).post z in let v = z.0.3.0 in let a = z.0.3.1.0 in
    qed 𝓛 ((raw (alive 𝓛 En.signature z.0.0 z.0.1) ⊛ ‵ (owns (types_at En.signature.params z.0.0) z.0.3 z.0.4)) ∷ raw (fact 𝓤 (is_held v.value ≡ true)) ∷ []) ∵ move ! (1 ∷ []) $
    heard ! (is_held v.value ≡ true) (λ is. let got = some_of v.value is in split ! $ move ! (1 ∷ []) $ fsplit3 ! $
    -- [the handle; the allocator's; nothing; the tokens]
    fsplit ! $ drop ! $ rewrite ! 0 (λ (o : Option R.Denot). ‵ (held (ghosts.dealloc_token v.heap) R v.at o)) got.1 refl $ move ! (1 ∷ []) $
    handle_tells al ! a z.0.4.1.0 (λ h ea fits. move ! (1 ∷ []) $
    in_a_block ! v.at (λ p. box_owns (ghosts.dealloc_token v.heap) R p got.0) (fst∗ 𝓤 (never 𝓤) (sem 𝓛 (ghosts.dealloc_token v.heap (bare (lone R.mir)) null_ptr))) (λ b o e.
    let told : z.0.4.0 ≡ handle_val v.at ∷ [] = handle_told v.at z.0.4.0 are.0.0 in
    keep ! (0 ∷ 1 ∷ 3 ∷ []) $ regoal ! (λ (us : List Val). prop (WpFn 𝓤 H 𝓣.C 𝓣.Λ fn us Post)) (λ i. told i ++ (ea i ++ [])) refl $
    regoal ! (λ (p : Ptr). prop (WpFn 𝓤 H 𝓣.C 𝓣.Λ fn (handle_val p ∷ h ∷ []) Post)) e refl $
    enter ! 𝓣.C 𝓣.Λ fn (handle_val (block_ptr b o) ∷ h ∷ []) Post $ alloc_all ! (λ l. pass_all ! refl ((tt, (tt, tt)), (fits, tt)) $
    sets ! (of_opd ! (get_in ! (fld ! refl (stop !)) (sub ! 0 refl (whole !)))) refl (tt, tt) $
    sets ! (of_opd ! (get ! refl)) refl (tt, tt) $
    sets ! (agg ! (and_then ! (get ! refl) (and_then ! (get ! refl) (no_more !)))) refl (loose_good R Z LZ ghosts b o h fits) $
    returns ! (look_at ! 0 refl) $ free_all ! refl $
    loose_in R Z LZ ghosts ! b o h a got.0 $
    use0 𝓛 (raw (fact 𝓤 (v.value ≡ Some got.0))) (fact_i 𝓤 (v.value ≡ Some got.0) (emp 𝓤) got.1) $ nothing ! $ nothing ! $ fjoin ! $ nothing ! $ fjoin ! $ move ! (3 ∷ 0 ∷ 2 ∷ 1 ∷ []) $
    by ! (leaves 𝓛 En hs c z (both (vptr b o) h) (record { ptr = block_ptr b o; alloc = a; value = got.0 }) (tt, (tt, tt)) (tt, (tt, tt))))))))
