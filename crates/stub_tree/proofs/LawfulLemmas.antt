-- Lawful lists of stubs that grow, and how long they are.
use Rattle.std.proofs.Common.{◌+◌, ◌<◌, ◌≤◌, List, [], ◌∷◌, ◌++◌, length, arith}
use Rattle.std.specs.Prelude.{Option, Some, None}
use Rattle.std.specs.List.{last_or}
use Rattle.ide_text.specs.Text.{max_chars}
use Rattle.stub_tree.specs.declared.stub.Stub.{Stub}
use Rattle.stub_tree.specs.Lawful.{IsLawfulStub, IsLawfulList, IsLawfulAfter, MayFollow}

-- a lawful stub that may follow the last one leaves the list lawful
pub lawful_after_push : (before : Option Stub) (ss : List Stub) (s : Stub) → IsLawfulAfter before ss → IsLawfulStub s
    → MayFollow (last_or before ss) s → IsLawfulAfter before (ss ++ s ∷ [])
lawful_after_push before [] s lawful by_itself follows = (by_itself, follows, tt)
lawful_after_push before (t ∷ ts) s lawful by_itself follows =
    (lawful.0, lawful.1, lawful_after_push (Some t) ts s lawful.2 by_itself follows)

pub lawful_list_push : (ss : List Stub) (s : Stub) → IsLawfulList ss → IsLawfulStub s → MayFollow (last_or None ss) s
    → IsLawfulList (ss ++ s ∷ [])
lawful_list_push ss s lawful by_itself follows = lawful_after_push None ss s lawful by_itself follows

-- since offsets rise, there are no more stubs than characters of a text behind the first of them
lawful_after_few : (before : Stub) (ss : List Stub) → before.at < max_chars → IsLawfulAfter (Some before) ss
    → length ss + before.at < max_chars
lawful_after_few before [] inside lawful = omega arith
lawful_after_few before (s ∷ ss) inside lawful =
    let rest : length ss + s.at < max_chars = lawful_after_few s ss lawful.0.in_text lawful.2 in
    let rises : before.at < s.at = lawful.1.2 in
    omega arith

pub lawful_list_few : (ss : List Stub) → IsLawfulList ss → length ss ≤ max_chars
lawful_list_few [] lawful = omega arith
lawful_list_few (s ∷ ss) lawful =
    let rest : length ss + s.at < max_chars = lawful_after_few s ss lawful.0.in_text lawful.2 in
    omega arith
