use Rattle.std.proofs.Common.{◌≡◌, ◌||◌, ◌∙◌, ◌∷◌, [], List, ap, nat_eq, ℕ, Result, Ok, Err}
use Rattle.std.specs.Prelude.{OnOk}
use Rattle.terms.specs.Sets.{has, AddsOrdinal}
use Rattle.terms.specs.Words.{has_bit}
use Rattle.terms.specs.declared.words.Word.{Word}
use Rattle.terms.proofs.Inserting.{AreWords-one, IsWordWith, word_of-is}
use Rattle.terms.proofs.words.insert_ordinal.Goals as goal

-- where it came in, the word's only ordinal did
one-more : {T E : Type 0} (r : Result T E) (old new : List ℕ) (k : ℕ) (word : Word) → IsWordWith (nat_eq k) word
    → OnOk r ((j : ℕ) → has new j ≡ (has old j || has_bit (word ∷ []) j)) → OnOk r (AddsOrdinal old new k)
one-more (Ok x) old new k word m h = λ j. h j ∙ ap (λ b. has old j || b) (m.members j)
one-more (Err e) old new k word m h = tt

pub insert_word-requires-clause-word : goal.insert_word-requires-clause-word
insert_word-requires-clause-word c =
    AreWords-one _ _ (word_of-is c.args.ordinal c.word_of.result c.ranges.ordinal.fits c.word_of.ensures.number c.word_of.ensures.bits)

pub returns-clause-added : goal.returns-clause-added
returns-clause-added c =
    one-more c.insert_word.result _ _ c.args.ordinal c.word_of.result
    (word_of-is c.args.ordinal c.word_of.result c.ranges.ordinal.fits c.word_of.ensures.number c.word_of.ensures.bits) c.insert_word.ensures.added
