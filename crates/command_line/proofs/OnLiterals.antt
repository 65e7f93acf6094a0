-- The definitions at words that are written out.
use Rattle.std.proofs.Common.{◌≡◌, [], ◌∷◌, Some, None, codes, refl}
use Rattle.clap.specs.Words.{Text}
use Rattle.clap.proofs.OnLiterals.{clap_on_literals}
use Rattle.command_line.specs.declared.request.Request.TheVariants.{Play, Demo, Check, Index}
use Rattle.std.specs.Fmt.{digits}
use Rattle.command_line.specs.Number.{number_of}
use Rattle.command_line.specs.Request.{request_of}

-- the name alone is `play` with no worker
play_said : (name : Text) → (request_of (name ∷ []) ≡ Some (Play 0 None))
    × (request_of (name ∷ codes "play" ∷ []) ≡ Some (Play 0 None))
    × (request_of (name ∷ codes "play" ∷ codes "--workers" ∷ codes "8" ∷ []) ≡ Some (Play 8 None))
    × (request_of (name ∷ codes "play" ∷ codes "--workers" ∷ codes "9" ∷ []) ≡ None)
unfolding clap_on_literals number_of digits
play_said name = (refl, refl, refl, refl)

-- what isn't given has its default, and a value stands in the next word or behind `=`
demo_said : (name : Text) → (request_of (name ∷ codes "demo" ∷ []) ≡ Some (Demo 1 8 32 0))
    × (request_of (name ∷ codes "demo" ∷ codes "--workers" ∷ codes "1" ∷ []) ≡ Some (Demo 1 8 32 1))
    × (request_of (name ∷ codes "demo" ∷ codes "--seed" ∷ codes "7" ∷ codes "--files=2" ∷ []) ≡ Some (Demo 7 2 32 0))
    × (request_of (name ∷ codes "demo" ∷ codes "--files" ∷ codes "0" ∷ []) ≡ None)
    × (request_of (name ∷ codes "demo" ∷ codes "--seed" ∷ codes "01" ∷ []) ≡ None)
    × (request_of (name ∷ codes "demo" ∷ codes "--seed" ∷ codes "1" ∷ codes "--seed" ∷ codes "1" ∷ []) ≡ None)
unfolding clap_on_literals number_of digits
demo_said name = (refl, refl, refl, refl, refl, refl)

-- a path is what its word says, before the option or behind it; one that begins with `-` stands behind `--`
check_said : (name : Text) → (request_of (name ∷ codes "check" ∷ codes "a b/t.txt" ∷ codes "--workers" ∷ codes "2" ∷ []) ≡ Some (Check (codes "a b/t.txt") 2))
    × (request_of (name ∷ codes "check" ∷ codes "--workers=0" ∷ codes "play" ∷ []) ≡ Some (Check (codes "play") 0))
    × (request_of (name ∷ codes "check" ∷ codes "--" ∷ codes "-t" ∷ []) ≡ Some (Check (codes "-t") 0))
    × (request_of (name ∷ codes "check" ∷ []) ≡ None)
    × (request_of (name ∷ codes "check" ∷ codes "a" ∷ codes "b" ∷ []) ≡ None)
unfolding clap_on_literals number_of digits
check_said name = (refl, refl, refl, refl, refl)

-- a store's path stands in the next word or behind `=`, before the other option or behind it
store_said : (name : Text)
    → (request_of (name ∷ codes "play" ∷ codes "--store" ∷ codes "a b/s" ∷ codes "--workers" ∷ codes "2" ∷ []) ≡ Some (Play 2 (Some (codes "a b/s"))))
    × (request_of (name ∷ codes "play" ∷ codes "--workers=1" ∷ codes "--store=s" ∷ []) ≡ Some (Play 1 (Some (codes "s"))))
    × (request_of (name ∷ codes "play" ∷ codes "--store" ∷ codes "play" ∷ []) ≡ Some (Play 0 (Some (codes "play"))))
    × (request_of (name ∷ codes "play" ∷ codes "--store=-s" ∷ []) ≡ Some (Play 0 (Some (codes "-s"))))
    × (request_of (name ∷ codes "play" ∷ codes "--store" ∷ codes "-s" ∷ []) ≡ None)
unfolding clap_on_literals number_of digits
store_said name = (refl, refl, refl, refl, refl)

-- an option without its path, one that is given twice, and one of another subcommand
no_store : (name : Text) → (request_of (name ∷ codes "play" ∷ codes "--store" ∷ []) ≡ None)
    × (request_of (name ∷ codes "play" ∷ codes "--store" ∷ codes "s" ∷ codes "--store" ∷ codes "s" ∷ []) ≡ None)
    × (request_of (name ∷ codes "demo" ∷ codes "--store" ∷ codes "s" ∷ []) ≡ None)
unfolding clap_on_literals number_of digits
no_store name = (refl, refl, refl)

-- `index` has no option and no word behind it
index_said : (name : Text) → (request_of (name ∷ codes "index" ∷ []) ≡ Some Index)
    × (request_of (name ∷ codes "index" ∷ codes "--workers" ∷ codes "0" ∷ []) ≡ None)
    × (request_of (name ∷ codes "index" ∷ codes "s" ∷ []) ≡ None)
unfolding clap_on_literals number_of digits
index_said name = (refl, refl, refl)

-- an option stands behind the subcommand, and whoever asks for help asks for nothing else
option_first : (name : Text) → (request_of (name ∷ codes "--workers" ∷ codes "0" ∷ codes "play" ∷ []) ≡ None)
    × (request_of (name ∷ codes "--help" ∷ []) ≡ None)
    × (request_of (name ∷ codes "help" ∷ []) ≡ None)
unfolding clap_on_literals number_of digits
option_first name = (refl, refl, refl)
