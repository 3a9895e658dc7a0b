use Rattle.std.proofs.Common.{ℕ, List, [], ◌∷◌, subst, sym}
use Rattle.std.proofs.lemmas.List.{append-nil}
use Rattle.lines.specs.Texts.{Puts}
use Rattle.replies.specs.Replies.{reply_text}
use Rattle.session.proofs.SessionLemmas.{found_last, session_one}
use Rattle.session.proofs.serving.put_last.Goals as goal

pub returns-in_default : goal.returns-in_default
returns-in_default g c = λ text stands no_feed.
    let last = found_last _ text _ c.in_default.not-More (c.last.ensures.found text stands no_feed) in
    let (reply, lawful, puts) = c.reply_to.ensures c.args.settings text (c.read_found-read.ensures text last.1) in (
      reply ∷ [],
      session_one c.args.settings c.lines_end_at_feeds.ensures.last _ text _ reply no_feed last.0 lawful,
      subst (λ (l : List ℕ). Puts (g.W.Write.contents c.args.writer.now) (g.W.Write.contents c.reply_to.new.writer) c.args.outbox.now c.reply_to.new.outbox c.reply_to.result l) (sym (append-nil (reply_text reply))) puts,
    )
