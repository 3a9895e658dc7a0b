use Rattle.std.proofs.Common.{◌≡◌, ◌∙◌, ℕ, refl, subst, sym, true≢false}
use Rattle.store.specs.Indexes.{Indexed}
use Rattle.store.specs.Slots.{AreFound, HasKey, Slots}
use Rattle.store.specs.RequirementIndex.{AreHeld, IsStore, Wanted}
use Rattle.store.proofs.store.Store.begin_indexes.Goals.{else-not-is_whole, else-not-is_whole-2, then-not-is_whole+in_ok-begin, then-not-is_whole-2+in_ok-begin-2}
use Rattle.store.proofs.store.Store.begin_indexes.Goals as goal

-- with its members found under their keys anew
keyed_anew : (count : ℕ) (slots : Slots) (old new : Indexed) (wanted : Wanted) → AreFound HasKey new slots → IsStore count slots old wanted → IsStore count slots new wanted
keyed_anew count slots old new wanted keyed store = record { counted = store.counted; keyed = keyed; held = store.held }

-- with its members held anew
held_anew : (count : ℕ) (slots : Slots) (keys : Indexed) (old new : Wanted) → AreHeld new slots → IsStore count slots keys old → IsStore count slots keys new
held_anew count slots keys old new held store = record { counted = store.counted; keyed = store.keyed; held = held }

pub invariant_of-self : goal.invariant_of-self
invariant_of-self c =
    let s = c.self.inside in
    keyed_anew s.count s.slots.items s.keys c.begin.new.self s.wants (λ whole. absurd (true≢false (sym whole ∙ c.in_err-begin.ensures.lost))) c.self.invariant

pub invariant_of-self-in_err-begin-2 : goal.invariant_of-self-in_err-begin-2
invariant_of-self-in_err-begin-2 c =
    let s = c.self.inside in
    let k = c.if-not-is_whole.self-inside in
    let keyed : IsStore k.count k.slots.items k.keys k.wants = elim c.if-not-is_whole.branch [
      | then-not-is_whole+in_ok-begin w ↦
          rw w.self-inside-is (keyed_anew s.count s.slots.items s.keys w.add_keys.new.keys s.wants (subst (λ (slots : Slots). AreFound HasKey w.add_keys.new.keys slots) w.deref.ensures.value w.add_keys.ensures) c.self.invariant)
      | else-not-is_whole w ↦ rw w.self-inside-is c.self.invariant
    ] in
    held_anew k.count k.slots.items k.keys k.wants c.begin-then-not-is_whole-2.new.self (λ whole. absurd (c.in_err-begin-2.ensures whole)) keyed

pub invariant_of-self-in_err-begin-3 : goal.invariant_of-self-in_err-begin-3
invariant_of-self-in_err-begin-3 c =
    let s = c.self.inside in
    let k = c.if-not-is_whole.self-inside in
    let keyed : IsStore k.count k.slots.items k.keys k.wants = elim c.if-not-is_whole.branch [
      | then-not-is_whole+in_ok-begin w ↦
          rw w.self-inside-is (keyed_anew s.count s.slots.items s.keys w.add_keys.new.keys s.wants (subst (λ (slots : Slots). AreFound HasKey w.add_keys.new.keys slots) w.deref.ensures.value w.add_keys.ensures) c.self.invariant)
      | else-not-is_whole w ↦ rw w.self-inside-is c.self.invariant
    ] in
    elim c.if-not-is_whole-2.branch [
      | then-not-is_whole-2+in_ok-begin-2 w ↦
          rw w.self-inside-is (held_anew k.count k.slots.items k.keys k.wants w.add_all_rests.new.wants
          (subst (λ (slots : Slots). AreHeld w.add_all_rests.new.wants slots) w.deref-then-not-is_whole-2.ensures.value w.add_all_rests.ensures) keyed)
      | else-not-is_whole-2 w ↦ rw w.self-inside-is keyed
    ]

pub invariant_of-self-then-not-is_whole-3 : goal.invariant_of-self-then-not-is_whole-3
invariant_of-self-then-not-is_whole-3 c =
    let s = c.self.inside in
    let k = c.if-not-is_whole.self-inside in
    let keyed : IsStore k.count k.slots.items k.keys k.wants = elim c.if-not-is_whole.branch [
      | then-not-is_whole+in_ok-begin w ↦
          rw w.self-inside-is (keyed_anew s.count s.slots.items s.keys w.add_keys.new.keys s.wants (subst (λ (slots : Slots). AreFound HasKey w.add_keys.new.keys slots) w.deref.ensures.value w.add_keys.ensures) c.self.invariant)
      | else-not-is_whole w ↦ rw w.self-inside-is c.self.invariant
    ] in
    elim c.if-not-is_whole-2.branch [
      | then-not-is_whole-2+in_ok-begin-2 w ↦
          rw w.self-inside-is (held_anew k.count k.slots.items k.keys k.wants w.add_all_rests.new.wants
          (subst (λ (slots : Slots). AreHeld w.add_all_rests.new.wants slots) w.deref-then-not-is_whole-2.ensures.value w.add_all_rests.ensures) keyed)
      | else-not-is_whole-2 w ↦ rw w.self-inside-is keyed
    ]

pub invariant_of-self-else-not-is_whole-3 : goal.invariant_of-self-else-not-is_whole-3
invariant_of-self-else-not-is_whole-3 c =
    let s = c.self.inside in
    let k = c.if-not-is_whole.self-inside in
    let keyed : IsStore k.count k.slots.items k.keys k.wants = elim c.if-not-is_whole.branch [
      | then-not-is_whole+in_ok-begin w ↦
          rw w.self-inside-is (keyed_anew s.count s.slots.items s.keys w.add_keys.new.keys s.wants (subst (λ (slots : Slots). AreFound HasKey w.add_keys.new.keys slots) w.deref.ensures.value w.add_keys.ensures) c.self.invariant)
      | else-not-is_whole w ↦ rw w.self-inside-is c.self.invariant
    ] in
    elim c.if-not-is_whole-2.branch [
      | then-not-is_whole-2+in_ok-begin-2 w ↦
          rw w.self-inside-is (held_anew k.count k.slots.items k.keys k.wants w.add_all_rests.new.wants
          (subst (λ (slots : Slots). AreHeld w.add_all_rests.new.wants slots) w.deref-then-not-is_whole-2.ensures.value w.add_all_rests.ensures) keyed)
      | else-not-is_whole-2 w ↦ rw w.self-inside-is keyed
    ]

pub returns-in_err-begin : goal.returns-in_err-begin
returns-in_err-begin c = c.self.view_is

pub returns-in_err-begin-2 : goal.returns-in_err-begin-2
returns-in_err-begin-2 c =
    let slots : c.if-not-is_whole.self-inside.slots ≡ c.self.inside.slots = elim c.if-not-is_whole.branch [
      | then-not-is_whole+in_ok-begin w ↦ rw w.self-inside-is refl
      | else-not-is_whole w ↦ rw w.self-inside-is refl
    ] in
    rw slots c.self.view_is

pub returns-in_err-begin-3 : goal.returns-in_err-begin-3
returns-in_err-begin-3 c =
    let slots : c.if-not-is_whole.self-inside.slots ≡ c.self.inside.slots = elim c.if-not-is_whole.branch [
      | then-not-is_whole+in_ok-begin w ↦ rw w.self-inside-is refl
      | else-not-is_whole w ↦ rw w.self-inside-is refl
    ] in
    let slots-2 : c.if-not-is_whole-2.self-inside.slots ≡ c.self.inside.slots = elim c.if-not-is_whole-2.branch [
      | then-not-is_whole-2+in_ok-begin-2 w ↦ rw w.self-inside-is slots
      | else-not-is_whole-2 w ↦ rw w.self-inside-is slots
    ] in
    rw slots-2 c.self.view_is

pub returns-in_ok-begin-3 : goal.returns-in_ok-begin-3
returns-in_ok-begin-3 c =
    let slots : c.if-not-is_whole.self-inside.slots ≡ c.self.inside.slots = elim c.if-not-is_whole.branch [
      | then-not-is_whole+in_ok-begin w ↦ rw w.self-inside-is refl
      | else-not-is_whole w ↦ rw w.self-inside-is refl
    ] in
    let slots-2 : c.if-not-is_whole-2.self-inside.slots ≡ c.self.inside.slots = elim c.if-not-is_whole-2.branch [
      | then-not-is_whole-2+in_ok-begin-2 w ↦ rw w.self-inside-is slots
      | else-not-is_whole-2 w ↦ rw w.self-inside-is slots
    ] in
    rw slots-2 c.self.view_is

pub returns-else-not-is_whole-3 : goal.returns-else-not-is_whole-3
returns-else-not-is_whole-3 c =
    let slots : c.if-not-is_whole.self-inside.slots ≡ c.self.inside.slots = elim c.if-not-is_whole.branch [
      | then-not-is_whole+in_ok-begin w ↦ rw w.self-inside-is refl
      | else-not-is_whole w ↦ rw w.self-inside-is refl
    ] in
    let slots-2 : c.if-not-is_whole-2.self-inside.slots ≡ c.self.inside.slots = elim c.if-not-is_whole-2.branch [
      | then-not-is_whole-2+in_ok-begin-2 w ↦ rw w.self-inside-is slots
      | else-not-is_whole-2 w ↦ rw w.self-inside-is slots
    ] in
    rw slots-2 c.self.view_is
