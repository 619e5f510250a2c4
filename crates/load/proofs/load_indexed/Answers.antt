use native.Mathlib.Omega.{arith}
use borrow.Author.Tests.{lt-ltb, le-ltb}
use Rattle.parlog.specs.Load.{load_of, long}
use Rattle.load.proofs.load_indexed.Goals as goal

pub returns-then-image-gt-MOST_BYTES : goal.returns-then-image-gt-MOST_BYTES
unfolding load_of long
returns-then-image-gt-MOST_BYTES c = record { value = rw (lt-ltb _ _ c.if-image-gt-MOST_BYTES.true) c.refused.ensures; bounded = rw c.refused.ensures (omega arith); indexed_of = rw c.refused.ensures tt }

pub returns : goal.returns
unfolding load_of long
returns c = record { value = rw (le-ltb _ _ c.if-image-gt-MOST_BYTES.false) c.records.ensures.value; bounded = c.records.ensures.bounded; indexed_of = c.records.ensures.indexed_of }
