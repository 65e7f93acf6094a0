-- How a run ends, by how its bytes were written, which files it asked for, and bytes written in pieces.
pub use Rattle.std.proofs.Common.{◌≡◌, ◌∙◌, ℕ, List, [], ◌∷◌, ◌++◌, Option, Some, None, inl, inr, refl, sym, append-nil, append_assoc, arith, rules}
pub use Rattle.transcripts.specs.Play.{IsTranscript, PlaysWith}
use Rattle.ide_io.specs.Asks.{AsksSome}
use Rattle.std.specs.Io.KnownBytes.{append_known}
use Rattle.ide_io.specs.declared.source.Source
use Rattle.ide_io.specs.declared.tree.Tree
use Rattle.ide_io.specs.declared.sink.Sink
use Rattle.script_lang.specs.Parts.{Parts}
use Rattle.transcript_check.specs.declared.result.Verdict.{Verdict}
use Rattle.transcript_check.specs.declared.result.Verdict.TheVariants.{Good, Bad}
use Rattle.ide_script.specs.declared.status.Status.{Status}
use Rattle.ide_script.specs.declared.status.Status.TheVariants.{Done, SinkFault, OutOfMemory}
use Rattle.ide_script.specs.Outside.{SourceRun, TreeRun, SinkRun}
use Rattle.ide_script.specs.Reading.{TellsOfScript}
use Rattle.ide_script.specs.Writing.{ScriptEnds, WriteEnds}
use Rattle.ide_script.specs.Check.{CheckEnds, TellsVerdict, VerdictEnds}
use Rattle.ide_script.specs.Run.{DemoEnds, IsDemoSummary}

-- once the bytes of a demo's summary are known, its run ends as their writing does
pub demo_ends : {K : Type 0} {k : Sink.Ghosts K} (sink : SinkRun k) {seed files edits workers : ℕ} {bytes : List ℕ}
    → IsDemoSummary seed files edits workers bytes → (status : Status) → WriteEnds sink bytes status → DemoEnds sink seed files edits workers status
demo_ends sink is Done taken = record { bytes = _; is = is; taken = taken }
demo_ends sink is SinkFault (fault, taken) = record { bytes = _; is = is; taken = taken; fault = fault }
demo_ends sink is OutOfMemory same = tt
demo_ends sink is status never = absurd never

module _ {S T K : Type 0} {s : Source.Ghosts S} {t : Tree.Ghosts T} {k : Sink.Ghosts K} {source : SourceRun s} {tree : TreeRun t} (sink : SinkRun k) where
  -- once a run knows what it tells of its script, it ends as the writing of that does
  pub script_ends : {first : List (List ℕ)} {IsToldOf : Parts → List ℕ → Type 0} {bytes : List ℕ} → TellsOfScript source tree first IsToldOf bytes
      → (status : Status) → WriteEnds sink bytes status → ScriptEnds source tree sink first IsToldOf status
  script_ends told Done taken = record { bytes = _; is = told; taken = taken }
  script_ends told SinkFault (fault, taken) = record { bytes = _; is = told; taken = taken; fault = fault }
  script_ends told OutOfMemory same =
      inr (record { script = _; read = told.read; asked = record { front = _; rest = []; paths_are = sym (append-nil _); asked = told.asked } })
  script_ends told status never = absurd never

  -- once a transcript was judged, the run ends as the telling of the verdict does
  pub check_ends : {path : List ℕ} {workers : ℕ} (verdict : Verdict) → TellsVerdict source tree path workers verdict → (status : Status)
      → VerdictEnds sink verdict status → CheckEnds source tree sink path workers status
  check_ends Good tells status (inl (is, taken)) = rw is (record { tells = tells; taken = taken })
  check_ends Bad tells status (inl (is, taken)) = rw is (record { tells = tells; taken = taken })
  check_ends verdict tells status (inr (is, fault, taken)) = rw is (record { verdict = verdict; tells = tells; taken = taken; fault = fault })

-- the first of the files that are asked for was
pub asks_one : {T : Type 0} {asks : T → List ℕ → T → Type 0} {old new : T} {path : _} {paths : _} → asks old path new → AsksSome asks old (path ∷ paths) new
asks_one asked = record { first = record { front = _ ∷ []; rest = _; paths_are = refl; asked = (_, asked, refl) }; some = omega arith }

-- three pieces, one after the other, are one piece
pub three_pieces : (k0 : Option (List ℕ)) {k1 k2 k3 : Option (List ℕ)} (a b c : List ℕ) → k1 ≡ append_known k0 a → k2 ≡ append_known k1 b
    → k3 ≡ append_known k2 c → k3 ≡ append_known k0 (a ++ (b ++ c))
three_pieces None a b c first second third = rw (third, second, first) refl
three_pieces (Some all) a b c first second third = rw (third, second, first, append_assoc (all ++ a) b c, append_assoc all a (b ++ c)) refl
