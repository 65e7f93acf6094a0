use Rattle.ide_world.proofs.Words.{refl, ◌∙◌, arith, rules}
use Rattle.ide_world.proofs.WorldLemmas.{document_here, row_fits, marks_fit, rows_left, world_after, kept_after}
use Rattle.ide_world.proofs.RoomLemmas.{chars_left}
use Rattle.ide_world.proofs.state.State.carry_out.Goals as goal

pub apply_row-row-requires : goal.apply_row-row-requires
apply_row-row-requires c =
    let (within, made, path) = row_fits c.self.inside c.args.step c.self.invariant (rw (← c.self.view_is) at c.requires.lawful) c.draw_if.new.files
    c.draw_if.ensures.rows c.draw_if.ensures.keeps (rw (← c.self.view_is) at c.requires.rows) (rw (← c.self.view_is) at c.requires.room.path) in
    search (rules, within, made, path)

pub apply_document-requires-clause-fit : goal.apply_document-requires-clause-fit
apply_document-requires-clause-fit c =
    let lawful = rw (← c.self.view_is) at c.requires.lawful in rw (document_here c.self.inside c.args.step c.self.invariant lawful) at lawful.doc

pub set-requires : goal.set-requires
set-requires c =
    let fits = marks_fit c.self.inside c.args.step c.self.invariant (rw (← c.self.view_is) at c.requires.lawful) in search (rules, fits)

pub invariant_of-self : goal.invariant_of-self
invariant_of-self c =
    kept_after c.self.inside c.args.step c.self.invariant (rw (← c.self.view_is) at c.requires.lawful)
    _ c.draw_if.new.files c.is_unready_file-is_unready.result (assumption c) (rw (← c.self.view_is) at c.requires.stamps)

pub returns : goal.returns
returns c =
    let lawful = rw (← c.self.view_is) at c.requires.lawful in
    let docs = c.apply_document.new.docs in
    let world = world_after c.self.inside c.args.step c.self.invariant lawful
    (record c.self.inside { files = c.apply_row-row.new.files; docs = docs; layers = c.apply_index-index.new.layers; unready = c.set.new.self })
    c.draw_if.new.files c.is_unready_file-is_unready.result (assumption c) in
    let rows = rows_left c.self.inside c.args.step c.self.invariant lawful c.draw_if.new.files c.apply_row-row.new.files c.draw_if.ensures.rows
    c.apply_row-row.ensures.made (omega (arith, c.draw_if.ensures.keeps.rows, c.apply_row-row.ensures.keeps.rows)) in
    let chars = chars_left c.self.inside.docs docs c.args.step c.apply_document.ensures.documents c.apply_document.ensures.others
    c.apply_document.ensures.room in
    rw (← c.self.view_is) record {
      id = refl;
      world = world;
      keeps = record {
        paths = λ path had. c.apply_row-row.ensures.keeps.paths path (c.draw_if.ensures.keeps.paths path had);
        places = c.apply_document.ensures.places;
        parts = c.apply_index-index.ensures.keeps;
        layers = c.apply_index-index.ensures.keeps_place;
        marks = λ id had. c.set.ensures.keeps id ∙ had;
      };
      rows = rows;
      chars = chars;
    }
