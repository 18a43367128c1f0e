-- Bytes that are text, or not, and the games of their JSON.
use Rattle.std.proofs.{Common.{arith, ◌≡◌, ℕ, List, Bool, Option, Some, None, Result, Err, IfOk, refl}, lemmas.Grind.common_steps}
use Rattle.std.proofs.lemmas.Str.{is_utf8-from_IsUtf8, IsUtf8-from_is_utf8}
use Rattle.std.specs.{Option.ok_or, Str.{IsUtf8, is_utf8}}
use Rattle.er_event.specs.declared.scores.Games.{Games}
use Rattle.serde_json.specs.{Data.Data, Read.read}
use Rattle.er_paper.specs.{declared.slips.SlipFault.SlipFault, declared.slips.SlipFault.TheVariants.Bad, Slip.{games_in, slip_games}}

pub games-read : (text : List ℕ) (d : Data) → IsUtf8 text → read text ≡ Some d → slip_games text ≡ games_in d
unfolding slip_games
games-read text d is e = rw (is_utf8-from_IsUtf8 text is, e) refl

pub games-unread : (text : List ℕ) → (IsUtf8 text → read text ≡ None) → slip_games text ≡ None
unfolding slip_games
games-unread text none = by (is_utf8 text) refl
  where
    by : (b : Bool) → is_utf8 text ≡ b → slip_games text ≡ None
    by h1 e = grind (arith, common_steps, IsUtf8-from_is_utf8)

-- what `ok_or` makes of the games
pub games-ok : (slip o : Option Games) (r : Result Games SlipFault) → slip ≡ o → r ≡ ok_or o Bad → IfOk r (λ games. slip ≡ Some games)
games-ok slip o r same e = grind (arith, common_steps)

pub games-bad : (slip o : Option Games) (r : Result Games SlipFault) → slip ≡ o → r ≡ ok_or o Bad → r ≡ Err Bad → slip ≡ None
games-bad slip h1 r same e bad = grind (arith, common_steps)
