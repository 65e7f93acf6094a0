use Rattle.playing.proofs.Words.{◌≡◌, drop, ide_view, Continues}
use Rattle.transcripts.specs.declared.loaded.Loaded.TheVariants.{Nothing}
use Rattle.playing.proofs.SectionLemmas.{IsUnderWay}
use Rattle.playing.proofs.section.do_section.Given as goal

-- the pass is the same and at rest, and the section is under way
abbrev pub invariant-loop-line : goal.invariant-loop-line
invariant-loop-line g l = record {
  pass : Continues l.ide l.fn.pass l.pass;
  nothing : l.nothing ≡ Nothing;
  under_way : IsUnderWay l.beside l.seat l.lines l.loads (ide_view l.fn.pass) l.fn.records (ide_view l.pass) l.records (drop l.line-index l.lines) l.left;
}
