use Rattle.std.proofs.Common.{◌++◌, ◌∷◌, [], List, ℕ, length, refl, sym, ap, ◌∙◌, arith}
use Rattle.std.proofs.lemmas.List.{append_assoc}
use Rattle.lines.specs.Lines.{lines_of}
use Rattle.race.specs.KeptReply.{kept_text}
use Rattle.race.proofs.KeptLemmas.{kept_more}
use Rattle.race.proofs.RacingLemmas.{row_kept}
use Rattle.race.proofs.running.answer_lines.Goals as goal

pub answering-init : goal.answering-init
answering-init c =
    let none = ap length c.requires.empty in
    let count = c.args.replies.now.ok.0 in
    let room = c.requires.room in
    record {
      row = refl;
      answered = ([], [], refl, refl, ap kept_text c.requires.empty);
      room = omega arith;
    }

pub answering-preserved : goal.answering-preserved
answering-preserved c =
    let at = c.answering in
    let done = at.invariant.answered in
    let line = c.in-Some.line in
    let behind = c.in-Some.behind in
    let lines = c.in-Some.ensures.lines in
    let reply = c.answer-kept.ensures in
    let fewer = ap length lines in
    let room = at.invariant.room in
    let grown = c.push_reserved.ensures in
    record {
      row = row_kept c.args.settings line.now at.seat reply.0 c.answer-kept.new.seat reply.1 ∙ at.invariant.row;
      answered = (
        done.0 ++ line.now ∷ [],
        done.1 ++ reply.0 ∷ [],
        append_assoc done.0 (line.now ∷ []) (lines_of behind.now) ∙ (ap (λ (ls : List (List ℕ)). done.0 ++ ls) (sym lines) ∙ done.2),
        c.lawful_replies_add_up.ensures.lines c.args.settings done.0 (line.now ∷ []) done.1 (reply.0 ∷ []) c.args.seat.now at.seat c.answer-kept.new.seat done.3 (c.answer-kept.new.seat, reply.1, refl),
        ap kept_text grown.items ∙ kept_more at.replies.items c.answer-kept.result done.1 reply.0 done.4 reply.2,
      );
      room = omega arith;
    }
