use Rattle.read_clause.proofs.Parted.{arrow-short, arrow-long}
use Rattle.read_clause.proofs.behind_arrow.Goals as goal

pub returns-then-s-at-lt-ARROW_SIZE : goal.returns-then-s-at-lt-ARROW_SIZE
returns-then-s-at-lt-ARROW_SIZE c = arrow-short c.args.s.now c.args.at c.if-s-at-lt-ARROW_SIZE.true

pub returns : goal.returns
returns c = (arrow-long c.args.s.now c.args.at c.skip_blanks.result c.skip_blanks.ensures.0, c.skip_blanks.ensures.1)
