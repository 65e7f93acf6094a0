-- What an edit of a row makes of it.
use Rattle.std.specs.Prelude.{Option, Some, None}
use Rattle.vfs_core.specs.declared.row.FileRow.{FileRow}
use Rattle.ide_world.specs.declared.step.RowEdit.{RowEdit}
use Rattle.ide_world.specs.declared.step.RowEdit.TheVariants.{Keep, Put, Remove}

-- the row after an edit
abbrev pub edited_row : RowEdit → Option FileRow → Option FileRow
edited_row Keep row = row
edited_row (Put new) row = Some new
edited_row Remove row = None

-- the row that an edit puts in, if it does
abbrev pub put_row : RowEdit → Option FileRow
put_row Keep = None
put_row (Put new) = Some new
put_row Remove = None
