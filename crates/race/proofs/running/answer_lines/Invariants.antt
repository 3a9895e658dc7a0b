use Rattle.std.proofs.Common.{◌≡◌, ◌≤◌, ◌+◌, ◌++◌, List, ℕ, length, vec_len, vec_capacity}
use Rattle.lines.specs.Lines.{lines_of}
use Rattle.replies.specs.Replies.{Reply, replies_text}
use Rattle.race.specs.KeptReply.{kept_text}
use Rattle.answers.specs.Lawful.{AreLawfulWithin}
use Rattle.race.specs.Racing.{seat_ways}
use Rattle.race.proofs.running.answer_lines.Given as goal

abbrev pub invariant-answering : goal.invariant-answering
invariant-answering l = record {
  row : l.seat.row ≡ l.initial.seat.row;
  answered : (done : List (List ℕ)) × (told : List Reply) × (done ++ lines_of l.rest ≡ lines_of l.file)
      × AreLawfulWithin l.settings seat_ways done l.initial.seat told l.seat × (kept_text l.replies.items ≡ replies_text told);
  room : vec_len l.replies + length (lines_of l.rest) ≤ vec_capacity l.replies;
}

abbrev pub decreases-answering : goal.decreases-answering
decreases-answering l = length l.rest
