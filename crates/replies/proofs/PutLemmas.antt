-- Texts that are put one behind another.
use Rattle.std.proofs.Common.{◌≡◌, ℕ, ◌+◌, ◌≤◌, List, ◌++◌, map, take, length, nat_lt, false, Option, Some, Result, Ok, Err, arith, length-append, sym, ap, subst, ◌∙◌}
use Rattle.std.specs.List.{slice_get}
use Rattle.std.proofs.lemmas.List.{append_assoc}
use Rattle.std.specs.Io.KnownBytes.{Appends}
use Rattle.std.proofs.KnownBytes.{Appends-trans}
use Rattle.lines.specs.Texts.{IsBeginning, Puts, outbox_room}
use Rattle.serde_json.specs.Data.{Data}
use Rattle.serde_json.specs.Written.{comma_if, compact_text}
use Rattle.replies.specs.Joined.{Waits, joined}
use Rattle.replies.proofs.ReplyLemmas.{Makes, joined-front, joined-next}

-- a beginning of a text is one of a longer text
beginning-append : (front text more : List ℕ) → IsBeginning front text → IsBeginning front (text ++ more)
beginning-append front text more (rest, is) = (rest ++ more, sym (append_assoc front rest more) ∙ ap (λ l. l ++ more) is)

append-beginning : (before front text : List ℕ) → IsBeginning front text → IsBeginning (before ++ front) (before ++ text)
append-beginning before front text (rest, is) = (rest, append_assoc before front rest ∙ ap (λ l. before ++ l) is)

-- all of a text was put: what was written, and what waits now, are what waited and the text
pub record Put (old new : Option (List ℕ)) (before after text : List ℕ) : Type 0 where
  pub written : List ℕ
  pub appends : Appends old new written
  pub all : written ++ after ≡ before ++ text

-- a put failed, and a beginning of what waited and the text was written
pub record Fails (old new : Option (List ℕ)) (before text : List ℕ) : Type 0 where
  pub written : List ℕ
  pub appends : Appends old new written
  pub front : IsBeginning written (before ++ text)

-- one put after another
pub put_then : {a b c : Option (List ℕ)} {x y z first second : List ℕ} → Put a b x y first → Put b c y z second → Put a c x z (first ++ second)
put_then {x = x} {y = y} {z = z} {first = first} {second = second} here next = record {
  written = here.written ++ next.written;
  appends = Appends-trans _ _ _ _ _ here.appends next.appends;
  all = append_assoc here.written next.written z ∙ ap (λ l. here.written ++ l) next.all ∙ sym (append_assoc here.written y second)
      ∙ ap (λ l. l ++ second) here.all ∙ append_assoc x first second;
}

-- a put that fails after another
pub put_then_fails : {a b c : Option (List ℕ)} {x y first second : List ℕ} → Put a b x y first → Fails b c y second → Fails a c x (first ++ second)
put_then_fails {x = x} {y = y} {first = first} {second = second} here next =
    let text = sym (append_assoc here.written y second) ∙ ap (λ l. l ++ second) here.all ∙ append_assoc x first second in
    let front = append-beginning here.written next.written (y ++ second) next.front in
    record {
      written = here.written ++ next.written;
      appends = Appends-trans _ _ _ _ _ here.appends next.appends;
      front = (front.0, front.1 ∙ text);
    }

-- whatever was to follow a put that failed
pub fails_before : {a b : Option (List ℕ)} {x text : List ℕ} → Fails a b x text → (more : List ℕ) → Fails a b x (text ++ more)
fails_before {x = x} {text = text} failed more =
    let front = beginning-append failed.written (x ++ text) more failed.front in
    record { written = failed.written; appends = failed.appends; front = (front.0, front.1 ∙ append_assoc x text more) }

-- ---- as a put's clause says it

-- what stands at a put that is `Ok`
pub put_in : {a b : Option (List ℕ)} {x y text : List ℕ} → (written : List ℕ) × Appends a b written × (written ++ y ≡ x ++ text) → Put a b x y text
put_in (written, appends, all) = record { written = written; appends = appends; all = all }

-- what stands at a put that is `Err`
pub fails_in : {a b : Option (List ℕ)} {x text : List ℕ} → (written : List ℕ) × Appends a b written × IsBeginning written (x ++ text) → Fails a b x text
fails_in (written, appends, front) = record { written = written; appends = appends; front = front }

pub in_put : {a b : Option (List ℕ)} {x y text : List ℕ} → Put a b x y text → (written : List ℕ) × Appends a b written × (written ++ y ≡ x ++ text)
in_put put = (put.written, put.appends, put.all)

pub in_fails : {a b : Option (List ℕ)} {x text : List ℕ} → Fails a b x text → (written : List ℕ) × Appends a b written × IsBeginning written (x ++ text)
in_fails failed = (failed.written, failed.appends, failed.front)

-- a put after another, however it ends
pub puts_then : {E : Type 0} {a b : Option (List ℕ)} {x y first : List ℕ} (c : Option (List ℕ)) (z : List ℕ) (r : Result Unit E) (second : List ℕ) → Put a b x y first
    → Puts b c y z r second → Puts a c x z r (first ++ second)
puts_then c z (Ok u) second here next = in_put (put_then here (put_in next))
puts_then c z (Err e) second here next = in_fails (put_then_fails here (fails_in next))

-- ---- where there is room

-- where there is room for both, there is for the first
pub room_first : (x first second : List ℕ) → length x + length (first ++ second) ≤ outbox_room → length x + length first ≤ outbox_room
room_first x first second fits = omega (arith, length-append first second)

-- and for the second behind it
pub room_second : (x y first second : List ℕ) → y ≡ x ++ first → length x + length (first ++ second) ≤ outbox_room → length y + length second ≤ outbox_room
room_second x y first second is fits = omega (arith, length-append first second, length-append x first, ap length is)

-- ---- three texts that make one, as puts' clauses have them

module _ {first second third whole : List ℕ} (parts : Makes first second third whole) where
  pub first_fails : (a b : Option (List ℕ)) (x : List ℕ) → (written : List ℕ) × Appends a b written × IsBeginning written (x ++ first)
      → (written : List ℕ) × Appends a b written × IsBeginning written (x ++ whole)
  first_fails a b x failed = in_fails (subst (λ (text : List ℕ). Fails a b x text) parts.whole (fails_before {a = a} {b = b} {x = x} {text = first} (fails_in failed) (second ++ third)))

  pub second_fails : (a b c : Option (List ℕ)) (x y : List ℕ) → (written : List ℕ) × Appends a b written × (written ++ y ≡ x ++ first)
      → (written : List ℕ) × Appends b c written × IsBeginning written (y ++ second) → (written : List ℕ) × Appends a c written × IsBeginning written (x ++ whole)
  second_fails a b c x y here failed =
      let before : Put a b x y first = put_in here in
      let text : (first ++ second) ++ third ≡ whole = append_assoc first second third ∙ parts.whole in
      in_fails (subst (λ (text : List ℕ). Fails a c x text) text (fails_before (put_then_fails before (fails_in failed)) third))

  pub third_put : {E : Type 0} (a b c d : Option (List ℕ)) (x y z w : List ℕ) (r : Result Unit E) → (written : List ℕ) × Appends a b written × (written ++ y ≡ x ++ first)
      → (written : List ℕ) × Appends b c written × (written ++ z ≡ y ++ second) → Puts c d z w r third → Puts a d x w r whole
  third_put a b c d x y z w r here next last =
      let before : Put a b x y first = put_in here in
      let then : Put b c y z second = put_in next in
      let text : (first ++ second) ++ third ≡ whole = append_assoc first second third ∙ parts.whole in
      subst (λ (text : List ℕ). Puts a d x w r text) text (puts_then d w r third (put_then before then) last)

  -- where there is room for all three, there is for the first
  pub first_room : (x : List ℕ) → length x + length whole ≤ outbox_room → length x + length first ≤ outbox_room
  first_room x fits = room_first x first (second ++ third) (subst (λ (text : List ℕ). length x + length text ≤ outbox_room) (sym parts.whole) fits)

  pub second_room : (x y : List ℕ) → y ≡ x ++ first → length x + length whole ≤ outbox_room → length y + length second ≤ outbox_room
  second_room x y is fits =
      room_first y second third (room_second x y first (second ++ third) is (subst (λ (text : List ℕ). length x + length text ≤ outbox_room) (sym parts.whole) fits))

  pub third_room : (x y z : List ℕ) → y ≡ x ++ first → z ≡ y ++ second → length x + length whole ≤ outbox_room → length z + length third ≤ outbox_room
  third_room x y z y_is z_is fits =
      room_second y z second third z_is (room_second x y first (second ++ third) y_is (subst (λ (text : List ℕ). length x + length text ≤ outbox_room) (sym parts.whole) fits))

  -- all three wait
  pub all_wait : {E : Type 0} (x y z w : List ℕ) (r : Result Unit E) → (length x + length first ≤ outbox_room → y ≡ x ++ first)
      → (length y + length second ≤ outbox_room → z ≡ y ++ second) → Waits z w r third → Waits x w r whole
  all_wait x y z w r here next last = λ fits.
      let y_is : y ≡ x ++ first = here (first_room x fits) in
      let z_is : z ≡ y ++ second = next (second_room x y y_is fits) in
      let done = last (third_room x y z y_is z_is fits) in (
        done.0,
        done.1 ∙ ap (λ (l : List ℕ). l ++ third) z_is ∙ append_assoc y second third ∙ ap (λ (l : List ℕ). l ++ (second ++ third)) y_is
            ∙ append_assoc x first (second ++ third) ∙ ap (λ (l : List ℕ). x ++ l) parts.whole,
      )

-- ---- values with commas between

module _ {A : Type 0} (json : A → Data) (xs : List A) (i : ℕ) (x : A) (here : slice_get xs i ≡ Some x) where
  -- one value more
  pub value_put : {a b c : Option (List ℕ)} {p q r : List ℕ} → Put a b p q (joined (map json (take i xs)))
      → Put b c q r (comma_if (nat_lt 0 i) ++ compact_text (json x)) → Put a c p r (joined (map json (take (i + 1) xs)))
  value_put {a = a} {c = c} {p = p} {r = r} before put =
      subst (λ (text : List ℕ). Put a c p r text) (sym (joined-next json false xs i x here)) (put_then before put)

  -- one that fails, whatever was to follow
  pub value_fails : {a b c : Option (List ℕ)} {p q : List ℕ} → Put a b p q (joined (map json (take i xs)))
      → Fails b c q (comma_if (nat_lt 0 i) ++ compact_text (json x)) → Fails a c p (joined (map json xs))
  value_fails {a = a} {c = c} {p = p} before failed =
      let whole = joined-front json false (i + 1) xs in
      let up_to = subst (λ (text : List ℕ). Fails a c p text) (sym (joined-next json false xs i x here)) (put_then_fails before failed) in
      subst (λ (text : List ℕ). Fails a c p text) whole.1 (fails_before up_to whole.0)

  -- where there is room for all values, there is for the next one
  pub value_room : (p q : List ℕ) → length p + length (joined (map json xs)) ≤ outbox_room → q ≡ p ++ joined (map json (take i xs))
      → length q + length (comma_if (nat_lt 0 i) ++ compact_text (json x)) ≤ outbox_room
  value_room p q fits is =
      let whole = joined-front json false (i + 1) xs in
      let up_to = room_first p (joined (map json (take (i + 1) xs))) whole.0 (subst (λ (text : List ℕ). length p + length text ≤ outbox_room) (sym whole.1) fits) in
      room_second p q (joined (map json (take i xs))) (comma_if (nat_lt 0 i) ++ compact_text (json x)) is
      (subst (λ (text : List ℕ). length p + length text ≤ outbox_room) (joined-next json false xs i x here) up_to)

  -- one value more waits
  pub value_waits : (p q r : List ℕ) → q ≡ p ++ joined (map json (take i xs)) → r ≡ q ++ (comma_if (nat_lt 0 i) ++ compact_text (json x))
      → r ≡ p ++ joined (map json (take (i + 1) xs))
  value_waits p q r is more =
      more ∙ ap (λ (l : List ℕ). l ++ (comma_if (nat_lt 0 i) ++ compact_text (json x))) is
      ∙ append_assoc p (joined (map json (take i xs))) (comma_if (nat_lt 0 i) ++ compact_text (json x))
      ∙ ap (λ (l : List ℕ). p ++ l) (sym (joined-next json false xs i x here))

-- ---- lines one after another
