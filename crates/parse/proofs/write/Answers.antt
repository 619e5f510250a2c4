use Rattle.mode_table.specs.Held.{lines_in}
use native.Mathlib.Omega.{arith}
use Rattle.text_names.specs.Entries.{entries}
use Rattle.read_names.specs.Tables.{mode_names, names_at}
use Rattle.parse.proofs.Called.{measured-at, no_room, room, size-told, tells}
use Rattle.lay_text.proofs.Laws.{writes-both}
use mathlib.Core.List.{◌++◌}
use mathlib.Core.Path.{refl}
use Rattle.parse.proofs.write.Goals as goal

pub returns-then-short : goal.returns-then-short
returns-then-short c = tells (no_room c.args.image.now c.args.names.now c.args.bytes.now (entries (mode_names (lines_in c.args.relations.now)) ++ entries (names_at c.args.relations.now.text.now c.args.consts.now)) _ _ _ (size-told _ _ c.room_of-size.ensures.0 c.room_of-size.ensures.1) (measured-at (entries (mode_names (lines_in c.args.relations.now)) ++ entries (names_at c.args.relations.now.text.now c.args.consts.now)) refl (writes-both c.mode_names-a.ensures c.table_names-b.ensures)) (rw (c.room_of-i.ensures.0, c.room_of-j.ensures.0) refl) c.if-short.true)

pub returns : goal.returns
returns c = tells (room c.args.bytes.now (entries (mode_names (lines_in c.args.relations.now))) (entries (names_at c.args.relations.now.text.now c.args.consts.now)) _ _ _ refl (size-told _ _ c.room_of-size.ensures.0 c.room_of-size.ensures.1) (measured-at (entries (mode_names (lines_in c.args.relations.now)) ++ entries (names_at c.args.relations.now.text.now c.args.consts.now)) refl (writes-both c.mode_names-a.ensures c.table_names-b.ensures)) (rw (c.room_of-i.ensures.0, c.room_of-j.ensures.0) refl) c.if-short.false (let h = c.room_of-i.ensures.1 in let g = c.room_of-i.ensures.0 in omega arith) (let h = c.room_of-j.ensures.1 in let g = c.room_of-j.ensures.0 in omega arith) c.word-e.ensures c.mode_names-f.ensures c.table_names-g.ensures)
