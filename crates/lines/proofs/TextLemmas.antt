-- What was written of a text so far.
use Rattle.std.proofs.Common.{◌≡◌, ℕ, ◌+◌, ◌-◌, ◌≤◌, ◌<◌, List, [], ◌∷◌, ◌++◌, length, get_or, flat_map, refl, Bor, take, drop, sym, ap, subst, ◌∙◌, arith, Option, Result, Ok, Err, length-append}
use Rattle.std.proofs.lemmas.List.{take-append-drop, append_assoc, append-nil, take_more}
use Rattle.std.proofs.lemmas.List.Concat.{flat_map-append}
use Rattle.std.proofs.lemmas.List.Folds.{length-flat_map-take}
use lib.Seq.{take-add, take-take}
use Rattle.std.specs.Io.KnownBytes.{Appends}
use Rattle.std.proofs.KnownBytes.{Appends-trans}
use Rattle.lines.specs.Texts.{IsBeginning, Writes, Puts, outbox_room}

-- a front of a text is a beginning of it
pub take-beginning : (n : ℕ) (text : List ℕ) → IsBeginning (take n text) text
take-beginning n text = (drop n text, take-append-drop n text)

-- one write after another
pub writes_more : (a b c : Option (List ℕ)) (n m : ℕ) (text : List ℕ) → m ≤ length text - n → Appends a b (take n text)
    → Appends b c (take m (take (length text - n) (drop n text))) → Appends a c (take (n + m) text)
writes_more a b c n m text fits before here =
    let joined = ap (λ l. take n text ++ l) (take-take m (length text - n) (drop n text) fits) ∙ sym (take-add n m text) in
    subst (Appends a c) joined (Appends-trans a b c _ _ before here)

-- a beginning of a text is one of a longer text
pub beginning-append : (front text more : List ℕ) → IsBeginning front text → IsBeginning front (text ++ more)
beginning-append front text more (rest, is) = (rest ++ more, sym (append_assoc front rest more) ∙ ap (λ l. l ++ more) is)

pub append-beginning : (before front text : List ℕ) → IsBeginning front text → IsBeginning (before ++ front) (before ++ text)
append-beginning before front text (rest, is) = (rest, append_assoc before front rest ∙ ap (λ l. before ++ l) is)

-- a text that is written behind what waited, without waiting
pub puts_through : {E : Type 0} (r : Result Unit E) (a b c : Option (List ℕ)) (before after text : List ℕ) → Appends a b before → after ≡ []
    → Writes b c r text → Puts a c before after r text
puts_through (Ok u) a b c before after text sent none (written, appends, all) = (
  before ++ written,
  Appends-trans a b c _ _ sent appends,
  ap (λ l. before ++ written ++ l) none ∙ append-nil (before ++ written) ∙ ap (λ l. before ++ l) all,
)
puts_through (Err e) a b c before after text sent none (written, appends, front) =
    (before ++ written, Appends-trans a b c _ _ sent appends, append-beginning before written text front)

-- one text put behind another
pub put_after : (a b c : Option (List ℕ)) (before mid after t1 t2 written1 written2 : List ℕ) → Appends a b written1 → written1 ++ mid ≡ before ++ t1
    → Appends b c written2 → written2 ++ after ≡ mid ++ t2 → (written : List ℕ) × Appends a c written × (written ++ after ≡ before ++ (t1 ++ t2))
put_after a b c before mid after t1 t2 written1 written2 appends1 all1 appends2 all2 = (
  written1 ++ written2,
  Appends-trans a b c _ _ appends1 appends2,
  append_assoc written1 written2 after ∙ ap (λ l. written1 ++ l) all2 ∙ sym (append_assoc written1 mid t2) ∙ ap (λ l. l ++ t2) all1 ∙ append_assoc before t1 t2,
)

-- the same where the second fails, whatever was to follow
pub put_after_failed : (a b c : Option (List ℕ)) (before mid t1 t2 all more written1 written2 : List ℕ) → Appends a b written1 → written1 ++ mid ≡ before ++ t1
    → Appends b c written2 → IsBeginning written2 (mid ++ t2) → all ≡ (t1 ++ t2) ++ more
    → (written : List ℕ) × Appends a c written × IsBeginning written (before ++ all)
put_after_failed a b c before mid t1 t2 all more written1 written2 appends1 all1 appends2 (rest, is) split = (
  written1 ++ written2,
  Appends-trans a b c _ _ appends1 appends2,
  (
    rest ++ more,
    sym (append_assoc (written1 ++ written2) rest more) ∙ ap (λ l. l ++ more) (append_assoc written1 written2 rest ∙ ap (λ l. written1 ++ l) is
        ∙ sym (append_assoc written1 mid t2) ∙ ap (λ l. l ++ t2) all1 ∙ append_assoc before t1 t2) ∙ append_assoc before (t1 ++ t2) more ∙ ap (λ l. before ++ l) (sym split),
  ),
)

abbrev pub now_of : Bor (List ℕ) → List ℕ
now_of t = t.now

pub parts-more : (texts : List (Bor (List ℕ))) (i : ℕ) (d : Bor (List ℕ)) → i < length texts
    → flat_map now_of (take (i + 1) texts) ≡ flat_map now_of (take i texts) ++ (get_or texts i d).now
parts-more texts i d h = rw (take_more texts i d h, flat_map-append now_of (take i texts) (get_or texts i d ∷ []), append-nil (get_or texts i d).now) refl

-- what is read past the end of a list of texts
abbrev pub no_text : Bor (List ℕ)
no_text = record { ref_ptr = (0, 0); now = [] }

-- how many bytes one text more has
pub parts-count : (texts : List (Bor (List ℕ))) (i : ℕ) (d : Bor (List ℕ)) → i < length texts
    → length (flat_map now_of (take (i + 1) texts)) ≡ length (flat_map now_of (take i texts)) + length (get_or texts i d).now
parts-count texts i d h = ap length (parts-more texts i d h) ∙ length-append (flat_map now_of (take i texts)) (get_or texts i d).now

pub parts-split : (texts : List (Bor (List ℕ))) (i : ℕ) (d : Bor (List ℕ)) → i < length texts
    → flat_map now_of texts ≡ (flat_map now_of (take i texts) ++ (get_or texts i d).now) ++ flat_map now_of (drop (i + 1) texts)
parts-split texts i d h = ap (flat_map now_of) (sym (take-append-drop (i + 1) texts)) ∙ flat_map-append now_of (take (i + 1) texts) (drop (i + 1) texts)
    ∙ ap (λ l. l ++ flat_map now_of (drop (i + 1) texts)) (parts-more texts i d h)

-- what waited is sent, where nothing else waited before the text
pub writes_waiting : {E : Type 0} (r : Result Unit E) (a b c : Option (List ℕ)) (mid text written : List ℕ) → Appends a b written
    → written ++ mid ≡ text → Writes b c r mid → Writes a c r text
writes_waiting (Ok u) a b c mid text written appends is (sent, more, all) =
    (written ++ sent, Appends-trans a b c _ _ appends more, ap (λ l. written ++ l) all ∙ is)
writes_waiting (Err e) a b c mid text written appends is (sent, more, front) =
    (written ++ sent, Appends-trans a b c _ _ appends more, subst (IsBeginning (written ++ sent)) is (append-beginning written sent mid front))

pub writes_texts_fail : (a b c : Option (List ℕ)) (texts : List (Bor (List ℕ))) (i : ℕ) (d : Bor (List ℕ)) (written : List ℕ) → i < length texts
    → Appends a b (flat_map now_of (take i texts)) → Appends b c written → IsBeginning written (get_or texts i d).now
    → (all : List ℕ) × Appends a c all × IsBeginning all (flat_map now_of texts)
writes_texts_fail a b c texts i d written h before here front = (
  flat_map now_of (take i texts) ++ written,
  Appends-trans a b c _ _ before here,
  subst (IsBeginning (flat_map now_of (take i texts) ++ written)) (sym (parts-split texts i d h))
      (beginning-append _ _ (flat_map now_of (drop (i + 1) texts)) (append-beginning (flat_map now_of (take i texts)) written (get_or texts i d).now front)),
)

-- where all parts have room, so has the next one behind those that were put
pub parts-wait : (texts : List (Bor (List ℕ))) (i : ℕ) (d : Bor (List ℕ)) (before mid : List ℕ) → i < length texts → mid ≡ before ++ flat_map now_of (take i texts)
    → length before + length (flat_map now_of texts) ≤ outbox_room → length mid + length (get_or texts i d).now ≤ outbox_room
parts-wait texts i d before mid h is fits =
    omega (arith, length-flat_map-take now_of texts i d h, simp length-append at (ap length is))

pub parts-waited : (texts : List (Bor (List ℕ))) (i : ℕ) (d : Bor (List ℕ)) (before mid after : List ℕ) → i < length texts → mid ≡ before ++ flat_map now_of (take i texts)
    → after ≡ mid ++ (get_or texts i d).now → after ≡ before ++ flat_map now_of (take (i + 1) texts)
parts-waited texts i d before mid after h is waits =
    waits ∙ ap (λ l. l ++ (get_or texts i d).now) is ∙ append_assoc before (flat_map now_of (take i texts)) (get_or texts i d).now
    ∙ ap (λ l. before ++ l) (sym (parts-more texts i d h))
