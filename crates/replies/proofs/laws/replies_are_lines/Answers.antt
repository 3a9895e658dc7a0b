use Rattle.replies.proofs.LineLemmas.{json_has_no_feed, lines_count_replies, replies_are_lines}
use Rattle.replies.proofs.laws.replies_are_lines.Goals as goal

pub returns-clause-json : goal.returns-clause-json
returns-clause-json c = json_has_no_feed

pub returns-clause-one : goal.returns-clause-one
returns-clause-one c = replies_are_lines

pub returns-clause-counted : goal.returns-clause-counted
returns-clause-counted c = lines_count_replies c.lines_end_at_feeds.ensures.front c.lines_end_at_feeds.ensures.whole
