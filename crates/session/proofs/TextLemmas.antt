-- Lines that end in line feeds, and the texts of replies.
use Rattle.std.proofs.Common.{◌≡◌, ℕ, List, [], ◌∷◌, ◌++◌, refl, sym, ap, ◌∙◌}
use Rattle.std.proofs.lemmas.List.{append_assoc, append-nil}
use Rattle.std.proofs.lemmas.List.Concat.{flat_map-append}
use Rattle.std.specs.List.{AllByRecursion}
use Rattle.lines.specs.Lines.{HasNoFeed, line_feed, with_feeds}
use Rattle.replies.specs.Replies.{Reply, reply_text, replies_text}

with_feeds-cons : (line : List ℕ) (lines : List (List ℕ)) (rest : List ℕ) → with_feeds (line ∷ lines) ++ rest ≡ line ++ line_feed ∷ (with_feeds lines ++ rest)
with_feeds-cons line lines rest = append_assoc (line ++ line_feed ∷ []) (with_feeds lines) rest ∙ append_assoc line (line_feed ∷ []) (with_feeds lines ++ rest)

pub with_feeds-append : (lines more : List (List ℕ)) (rest : List ℕ) → with_feeds (lines ++ more) ++ rest ≡ with_feeds lines ++ (with_feeds more ++ rest)
with_feeds-append [] more rest = refl
with_feeds-append (first ∷ lines) more rest = with_feeds-cons first (lines ++ more) rest
    ∙ ap (λ l. first ++ line_feed ∷ l) (with_feeds-append lines more rest) ∙ sym (with_feeds-cons first lines (with_feeds more ++ rest))

pub with_feeds-more : (lines : List (List ℕ)) (line rest : List ℕ) → with_feeds lines ++ (line ++ line_feed ∷ rest) ≡ with_feeds (lines ++ line ∷ []) ++ rest
with_feeds-more lines line rest = sym (with_feeds-append lines (line ∷ []) rest ∙ ap (λ l. with_feeds lines ++ l) (with_feeds-one line rest))
  where
    with_feeds-one : (line rest : List ℕ) → with_feeds (line ∷ []) ++ rest ≡ line ++ line_feed ∷ rest
    with_feeds-one line rest = ap (λ l. l ++ rest) (append-nil (line ++ line_feed ∷ [])) ∙ append_assoc line (line_feed ∷ []) rest

pub no_feeds-append : (lines more : List (List ℕ)) → AllByRecursion HasNoFeed lines → AllByRecursion HasNoFeed more → AllByRecursion HasNoFeed (lines ++ more)
no_feeds-append [] more h here = here
no_feeds-append (first ∷ lines) more h here = (h.0, no_feeds-append lines more h.1 here)

pub no_feeds-first : (lines others : List (List ℕ)) → AllByRecursion HasNoFeed (lines ++ others) → AllByRecursion HasNoFeed lines
no_feeds-first [] others h = tt
no_feeds-first (line ∷ lines) others h = (h.0, no_feeds-first lines others h.1)

pub replies_text-more : (replies : List Reply) (reply : Reply) → replies_text (replies ++ reply ∷ []) ≡ replies_text replies ++ reply_text reply
replies_text-more replies reply = flat_map-append reply_text replies (reply ∷ []) ∙ ap (λ l. replies_text replies ++ l) (append-nil (reply_text reply))
