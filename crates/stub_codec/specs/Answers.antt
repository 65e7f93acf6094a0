-- What a refusal tells.
use Rattle.std.specs.Prelude.{◌≡◌, ℕ, List, Err}
use Rattle.stub_codec.specs.declared.refusal.StubRefusal.{StubRefusal}
use Rattle.stub_codec.specs.declared.refusal.StubRefusal.TheVariants.{BadStub, OutOfMemory}
use Rattle.stub_codec.specs.Reading.{all_of, offset_of}

-- a refusal other than `OutOfMemory` names the place of the first fault
abbrev pub IsRefusalOf : List ℕ → StubRefusal → Type 0
IsRefusalOf bytes OutOfMemory = Unit {0}
IsRefusalOf bytes (BadStub at) = (left : ℕ) × (all_of bytes ≡ Err left) × (at ≡ offset_of bytes left)
