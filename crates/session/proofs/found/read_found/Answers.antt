use Rattle.std.proofs.Common.{◌≡◌, false, length, nat_le, refl, rules}
use Rattle.lines.specs.Unread.{line_limit}
use Rattle.wire.specs.Requests.{request_of}
use Rattle.session.proofs.BatchLemmas.{refuses_within}
use Rattle.session.proofs.found.read_found.Goals as goal

pub returns-in-TooLong : goal.returns-in-TooLong
unfolding request_of
returns-in-TooLong c = λ line found.
    let long = rw c.in-TooLong.is at found in
    let over : nat_le (length line) line_limit ≡ false = search rules in
    refuses_within c.args.settings.budget line _ (rw over refl)
