-- One change of one file, and what it makes of the world.
use Rattle.std.specs.Prelude.{ℕ, List, [], ◌∷◌, Option, option_map, if◌then◌else◌}
use Rattle.std.specs.Option.{option_and_then}
use Rattle.vfs_core.specs.declared.row.FileRow.{FileRow}
use Rattle.document_buf.specs.Document.{Document}
use Rattle.write_history.specs.World.{World, File, file_of}
use Rattle.write_history.specs.Fold.{after_put}
use Rattle.ide_world.specs.declared.step.Step.{Step}
use Rattle.ide_world.specs.RowEdits.{edited_row}
use Rattle.ide_world.specs.DocEdits.{edited_document}

-- a file with a row and a document
abbrev pub file_with : Option Document → FileRow → File
file_with document row = record { path = row.path; content = row.content; stamp = row.stamp; indexed = row.indexed; document = document }

-- the file of a row and a document; without a row there is none
abbrev pub joined : Option FileRow → Option Document → Option File
joined row document = option_map (file_with document) row

-- the row of a file
abbrev pub row_part : Option File → Option FileRow
row_part file = option_map (λ f. record { path = f.path; content = f.content; stamp = f.stamp; indexed = f.indexed }) file

-- the document of a file
abbrev pub document_part : Option File → Option Document
document_part file = option_and_then (λ f. f.document) file

-- the file after a step
abbrev pub stepped : Step → Option File → Option File
stepped step file = joined (edited_row step.row (row_part file)) (edited_document step.doc (document_part file))

-- how many stamps a step draws
abbrev pub drawn_by : Step → ℕ
drawn_by step = if step.draws then 1 else 0

-- the world after a step
abbrev pub after_step : World → Step → World
after_step world step = after_put world (record { id = step.id; file = stepped step (file_of world step.id); drawn = drawn_by step })

-- the world after several steps, each made where the earlier ones lead
abbrev pub after_steps : World → List Step → World
after_steps world [] = world
after_steps world (step ∷ steps) = after_steps (after_step world step) steps
