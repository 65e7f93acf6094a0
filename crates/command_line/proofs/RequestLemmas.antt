-- What is read from clap's answers, and as numbers, is what the definitions read.
use Rattle.std.proofs.Common.{◌≡◌, ◌∙◌, ℕ, ◌≤◌, true, false, List, [], ◌∷◌, Option, Some, None, Result, Ok, Err, IfSome, refl, sym, ap, arith}
use Rattle.std.proofs.lemmas.Bool.Decides.{nat_tests}
use Rattle.std.specs.Option.{ok_or}
use Rattle.std.specs.Prelude.{IfOk}
use Rattle.std.specs.Str.Parse.{ParsesUnsigned, digits_value}
use Rattle.std.specs.Fmt.{decimal}
use Rattle.std.specs.Result.{result_ok}
use Rattle.std.proofs.lemmas.Bool.{le-leb}
use Rattle.std.proofs.lemmas.Fmt.{decimal_is_IsNumeral, parse-decimal}
use Rattle.std.proofs.lemmas.Slice.Eq.{bytes_eq-Decides}
use Rattle.clap.specs.Walk.{Row, Text, is_empty}
use Rattle.clap.specs.Words.{App, HasKind, IsAmong, Kinds, fault_of, kind_of, is_simple, is_simple_and_free, subcommand_of}
use Rattle.clap.specs.declared.error.Error.{Error}
use Rattle.clap.specs.declared.error.kind.ErrorKind.{ErrorKind}
use Rattle.clap.specs.declared.error.kind.ErrorKind.TheVariants as kind
use Rattle.clap.proofs.OnLiterals.{clap_on_literals}
use Rattle.command_line.specs.declared.request.Request.{Request}
use Rattle.command_line.specs.declared.request.WordsRefusal.{WordsRefusal}
use Rattle.command_line.specs.declared.request.WordsRefusal.TheVariants.{Usage, OutOfMemory}
use Rattle.command_line.specs.Grammar.{command}
use Rattle.command_line.specs.Number.{max_number, number_of}
use Rattle.command_line.specs.Request.{IsInRange, ReadsAs, number_in, request_by, request_of}

-- ---- numbers

-- a number is read from its digits alone
number_of-some : (text : List ℕ) (n : ℕ) → number_of text ≡ Some n → (text ≡ decimal n) × (n ≤ max_number)
unfolding number_of
number_of-some text n e = grind (arith, nat_tests, bytes_eq-Decides text (decimal (digits_value 10 text)))

-- a text that std reads as a number and that is its digits spells it
pub number_of-same : {E : Type 0} (text : List ℕ) (r : Result ℕ E) (n : ℕ) → ParsesUnsigned 32 10 text r → Some n ≡ result_ok r → decimal n ≡ text
    → Some n ≡ number_of text
unfolding number_of
number_of-same text (Ok m) n parsed is same =
    let one : n ≡ m = cc in
    let small : n ≤ max_number = omega (arith, parsed.0.1, parsed.1) in
    let value : digits_value 10 (decimal n) ≡ n = (decimal_is_IsNumeral n (omega arith)).1 in
    rw (← same, value, (bytes_eq-Decides (decimal n) (decimal n)).1 refl, le-leb n max_number small) refl
number_of-same text (Err e) n parsed is same = cc

-- a text that isn't the digits of what std reads of it spells none
pub number_of-none : {E : Type 0} (text : List ℕ) (r : Result ℕ E) → ParsesUnsigned 32 10 text r → ((n : ℕ) → result_ok r ≡ Some n → decimal n ≡ text → ⊥)
    → None ≡ number_of text
number_of-none {E} text r parsed other = by_number (number_of text) refl
  where
    by_number : (o : Option ℕ) → number_of text ≡ o → None ≡ number_of text
    by_number None e = sym e
    by_number (Some n) e =
        let is = number_of-some text n e in
        absurd (other n (ap result_ok (parse-decimal {E = E} 32 n text r (omega (arith, is.1)) (omega (arith, is.1)) is.0 parsed)) (sym is.0))

-- ---- what is read lies within its bounds

number_in-bounds : (options : List Row) (name : Text) (least most : ℕ) → IfSome (number_in options name least most) (λ n. (least ≤ n) × (n ≤ most))
number_in-bounds options name least most = grind (arith, nat_tests)

request_by-in_range : (o : Option (Text × List Row)) → IfSome (request_by o) IsInRange
request_by-in_range None = omega arith
request_by-in_range (Some p) = grind (arith, number_in-bounds p.1)

-- ---- what clap took

-- clap's own definition says all of a command of this kind
pub is_exact : (is_simple_and_free command ≡ true) × (is_simple command ≡ true)
unfolding clap_on_literals
is_exact = (refl, refl)

-- where clap refuses the words, they ask for nothing
among-some : (k : ErrorKind) (kinds : Kinds) → IsAmong k kinds → is_empty kinds ≡ false
among-some k [] never = absurd never
among-some k (first ∷ rest) among = grind arith

pub usage-told : (words : List Text) (e : Error) (told : WordsRefusal) → HasKind (fault_of command words) e
    → (kind_of e ≡ kind.OutOfMemory → told ≡ OutOfMemory) → ◌≡◌ {A = Result Request WordsRefusal} (Err told) (Err Usage) → request_of words ≡ None
usage-told words e told has short is = grind (arith, has, short, among-some (kind_of e) (fault_of command words))

-- where clap takes the words, they ask for what the subcommand asks for
pub taken : (words : List Text) (app : App) (o : Option (Text × List Row)) → app ≡ command → (is_simple_and_free app ≡ true → fault_of app words ≡ [])
    → (is_simple app ≡ true → o ≡ subcommand_of app words) → request_of words ≡ request_by o
taken words app o shape kinds matches =
    let bare = kinds (ap is_simple_and_free shape ∙ is_exact.0) in
    let none : fault_of command words ≡ [] = rw shape at bare in
    rw (matches (ap is_simple shape ∙ is_exact.1), shape, none) refl

-- what an option was, by what it becomes
pub was : {A : Type 0} (o : Option A) (e : WordsRefusal) (r : Result A WordsRefusal) → r ≡ ok_or o e → result_ok r ≡ o
was o e r is = grind arith

-- an answer has what is read, and where the words are refused nothing is read
pub ok-read : (read : Option Request) (result : Result Request WordsRefusal) → ReadsAs read result → IfOk result (λ request. read ≡ Some request)
ok-read read result reads = grind (arith, reads)

pub refused : (read : Option Request) (result : Result Request WordsRefusal) → ReadsAs read result → result ≡ Err Usage → read ≡ None
refused read result reads is = grind (arith, reads)

pub in_range-read : (o : Option (Text × List Row)) (result : Result Request WordsRefusal) → ReadsAs (request_by o) result → IfOk result IsInRange
in_range-read o result reads = grind (arith, request_by-in_range o, ok-read (request_by o) result reads)
