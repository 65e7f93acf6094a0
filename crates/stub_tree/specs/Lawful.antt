-- Lawful lists of stubs: what every listing of a text keeps.
use Rattle.std.specs.Prelude.{◌≡◌, ◌≢◌, ℕ, ◌+◌, ◌<◌, ◌≤◌, ◌^◌, true, false, List, [], ◌∷◌, length, Option, Some, None, All, encode_utf8_all}
use Rattle.ide_text.specs.Text.{max_chars}
use Rattle.stub_tree.specs.declared.stub.Stub.{Stub}
use Rattle.stub_tree.specs.Stub.{is_type}

-- the greatest depth of a stub
abbrev pub max_depth : ℕ
max_depth = 64

-- A name of a stub isn't empty and has fewer than 2^32 bytes of UTF-8.
pub record IsLawfulName (name : List ℕ) : Type 0 where
  pub some : name ≢ []
  pub short : length (encode_utf8_all name) < 2 ^ 32

-- A stub is lawful by itself where its kind is one of the nine, its depth is at most 64, its offset is one of a
-- text, its name and its supers are lawful names, there are fewer than 2^32 supers, and none but for a type.
pub record IsLawfulStub (s : Stub) : Type 0 where
  pub is_kind : (1 ≤ s.kind) × (s.kind ≤ 9)
  pub shallow : s.depth ≤ max_depth
  pub in_text : s.at < max_chars
  pub named : IsLawfulName s.name
  pub supers_named : All IsLawfulName s.supers
  pub supers_few : length s.supers < 2 ^ 32
  pub supers_of_types : is_type s ≡ false → s.supers ≡ []

-- What may follow: the first stub has the depth 0. A later one stands at most one deeper than the one before it,
-- and deeper only behind a type; and its offset is greater.
abbrev pub MayFollow : Option Stub → Stub → Type 0
MayFollow None s = s.depth ≡ 0
MayFollow (Some before) s =
    (s.depth ≤ before.depth + 1) × (before.depth < s.depth → is_type before ≡ true) × (before.at < s.at)

-- each of the stubs is lawful, and may follow the one before it
abbrev pub IsLawfulAfter : Option Stub → List Stub → Type 0
IsLawfulAfter before [] = Unit {0}
IsLawfulAfter before (s ∷ ss) = IsLawfulStub s × MayFollow before s × IsLawfulAfter (Some s) ss

-- A list of stubs is lawful where each of them is, and each may follow the one before it.
abbrev pub IsLawfulList : List Stub → Type 0
IsLawfulList ss = IsLawfulAfter None ss
