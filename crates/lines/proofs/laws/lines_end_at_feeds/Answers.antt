use Rattle.lines.proofs.LineLemmas.{lines_of-last, lines_of-with_feeds, whole_lines_of-rest, whole_lines_of-with_feeds}
use Rattle.lines.proofs.laws.lines_end_at_feeds.Goals as goal

pub returns-clause-front : goal.returns-clause-front
returns-clause-front c = lines_of-with_feeds

pub returns-clause-whole : goal.returns-clause-whole
returns-clause-whole c = whole_lines_of-with_feeds

pub returns-clause-last : goal.returns-clause-last
returns-clause-last c = lines_of-last

pub returns-clause-no_feed : goal.returns-clause-no_feed
returns-clause-no_feed c = whole_lines_of-rest
