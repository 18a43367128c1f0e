-- Calls that fail take away nothing that a crash could leave.
use Rattle.std.proofs.Common.{◌≡◌, ◌∙◌, inl, inr, ℕ, zero, suc, Bool, true, false, ◌&&◌, List, [], ◌∷◌, ◌++◌, length, take, if◌then◌else◌}
use Rattle.std.proofs.Common.{◌+◌, refl, sym, ap, subst, arith, length-take, get_or-take, slice_index}
use Rattle.std.proofs.Math.Nat.{le_refl}
use Rattle.sqlite_disk.specs.Disk.{Torn}
use Rattle.sqlite_disk.specs.Events.{Event, Model, after_call, overlaid, padded, replay}
use Rattle.sqlite_disk.specs.History.{MayLeave, Reaches, Step, Takes, resized, wrote}
use Rattle.sqlite_disk.proofs.EventLemmas.{Cut-padded, Holds-overlaid, Mixed-held, Mixed-refl, Mixed-then, Torn-overlaid, Torn-within}
use Rattle.er_cli.specs.Stopped.{StopsAreExits, failing}

torn_self : (at n : ℕ) (file : List ℕ) → Torn at n file file
torn_self at n file = record {
  no_shorter = le_refl (length file);
  no_longer = omega arith;
  below = λ i within early. refl;
  above = λ i within late. refl;
}

-- a step may have done nothing
takes_self : (mixes : Bool) (step : Step) (file : List ℕ) → Takes mixes step file file
takes_self mixes (inl (at, n, bytes)) file = (torn_self at n file, λ mixing. Mixed-refl at bytes file)
takes_self mixes (inr n) file = record {
  no_shorter = omega arith;
  no_longer = omega arith;
  below = λ i within early. refl;
}

-- or a part of it
takes_write : (mixes : Bool) (at n : ℕ) (bytes file : List ℕ)
    → Takes mixes (wrote at (length bytes) bytes) file (overlaid file at (take n bytes))
takes_write mixes at n bytes file =
    let part = take n bytes in
    let new = overlaid file at part in
    let torn = Torn-overlaid file at part in
    let short = length-take n bytes in (
      Torn-within at (length bytes) at (length part) file file new (le_refl at) (omega (arith, short)) (torn_self at (length bytes) file) torn,
      λ mixing. Mixed-then at 0 at bytes part file file new (omega arith) (omega (arith, short))
          (λ i low.
          let same : i ≡ 0 + i = omega arith in
          get_or-take n bytes i 0 (omega (arith, short, low)) ∙ ap (slice_index bytes) same)
          (Mixed-refl at bytes file)
          (Mixed-held at part file new torn (Holds-overlaid file at part)),
    )

abbrev Leaves : Bool → Model → List ℕ → Type 0
Leaves mixes file left = MayLeave mixes file.seen file.synced file.steps left

one_more : (mixes : Bool) (seen synced : List ℕ) (steps : List Step) (step : Step) (left : List ℕ) → MayLeave mixes seen synced steps left
    → MayLeave mixes seen synced (step ∷ steps) left
one_more mixes seen synced steps step left (inl is) = inl is
one_more mixes seen synced steps step left (inr reaches) = inr (left, reaches, takes_self mixes step left)

not_synced : (mixes is_usable : Bool) (seen synced : List ℕ) (steps : List Step) (left : List ℕ) → MayLeave mixes seen synced steps left
    → MayLeave mixes seen (if is_usable && false then seen else synced) (if is_usable && false then [] else steps) left
not_synced mixes true seen synced steps left may = may
not_synced mixes false seen synced steps left may = may

one_fails : (mixes : Bool) (kind at n : ℕ) (bytes : List ℕ) (file : Model) (left : List ℕ) → Leaves mixes file left
    → Leaves mixes (after_call kind at n false bytes file) left
one_fails mixes zero at n bytes file left may = may
one_fails mixes (suc zero) at n bytes file left may = may
one_fails mixes (suc (suc zero)) at n bytes file left may = may
one_fails mixes (suc (suc (suc zero))) at n bytes file left may =
    one_more mixes file.seen file.synced file.steps (wrote at (length bytes) bytes) left may
one_fails mixes (suc (suc (suc (suc zero)))) at n bytes file left may =
    one_more mixes file.seen file.synced file.steps (resized at) left may
one_fails mixes (suc (suc (suc (suc (suc zero))))) at n bytes file left may =
    not_synced mixes file.is_usable file.seen file.synced file.steps left may
one_fails mixes (suc (suc (suc (suc (suc (suc more)))))) at n bytes file left may = may

-- ---- what a read returns is among what the steps reach

synced_reaches : (mixes synced_now : Bool) (seen synced : List ℕ) (steps : List Step) → Reaches mixes synced steps seen
    → Reaches mixes (if synced_now then seen else synced) (if synced_now then [] else steps) seen
synced_reaches mixes true seen synced steps reaches = refl
synced_reaches mixes false seen synced steps reaches = reaches

reaches_on : (mixes : Bool) (kind at n : ℕ) (ok : Bool) (bytes : List ℕ) (file : Model) → Reaches mixes file.synced file.steps file.seen
    → (let new = after_call kind at n ok bytes file in Reaches mixes new.synced new.steps new.seen)
reaches_on mixes zero at n ok bytes file reaches = reaches
reaches_on mixes (suc zero) at n ok bytes file reaches = reaches
reaches_on mixes (suc (suc zero)) at n ok bytes file reaches = reaches
reaches_on mixes (suc (suc (suc zero))) at n true bytes file reaches = (file.seen, reaches, takes_write mixes at n bytes file.seen)
reaches_on mixes (suc (suc (suc zero))) at n false bytes file reaches =
    (file.seen, reaches, takes_self mixes (wrote at (length bytes) bytes) file.seen)
reaches_on mixes (suc (suc (suc (suc zero)))) at n true bytes file reaches = (file.seen, reaches, Cut-padded file.seen at)
reaches_on mixes (suc (suc (suc (suc zero)))) at n false bytes file reaches = (file.seen, reaches, takes_self mixes (resized at) file.seen)
reaches_on mixes (suc (suc (suc (suc (suc zero))))) at n ok bytes file reaches =
    synced_reaches mixes (file.is_usable && ok) file.seen file.synced file.steps reaches
reaches_on mixes (suc (suc (suc (suc (suc (suc more)))))) at n ok bytes file reaches = reaches

reaches_seen : (mixes : Bool) (start : List ℕ) (calls : List Event)
    → (let file = replay start calls in Reaches mixes file.synced file.steps file.seen)
reaches_seen mixes start [] = refl
reaches_seen mixes start (call ∷ earlier) =
    reaches_on mixes call.0 call.1 call.2 call.3 call.4 (replay start earlier) (reaches_seen mixes start earlier)

-- ---- a call that was done, in place of which one failed

was_reached : (mixes : Bool) (seen synced : List ℕ) (steps : List Step) (step : Step) (new left : List ℕ) → Reaches mixes synced steps seen
    → Takes mixes step seen new → MayLeave mixes new synced (step ∷ steps) left → MayLeave mixes seen synced (step ∷ steps) left
was_reached mixes seen synced steps step new left reaches takes (inl is) = inr (seen, reaches, subst (Takes mixes step seen) (sym is) takes)
was_reached mixes seen synced steps step new left reaches takes (inr may) = inr may

was_synced : (mixes is_usable ok : Bool) (seen synced : List ℕ) (steps : List Step) (left : List ℕ)
    → MayLeave mixes seen (if is_usable && ok then seen else synced) (if is_usable && ok then [] else steps) left
    → MayLeave mixes seen (if is_usable && false then seen else synced) (if is_usable && false then [] else steps) left
was_synced mixes true true seen synced steps left (inl is) = inl is
was_synced mixes true true seen synced steps left (inr is) = inl is
was_synced mixes true false seen synced steps left may = may
was_synced mixes false ok seen synced steps left may = may

done_fails : (mixes : Bool) (kind at n count : ℕ) (ok : Bool) (bytes : List ℕ) (file : Model) (left : List ℕ)
    → Reaches mixes file.synced file.steps file.seen → Leaves mixes (after_call kind at n ok bytes file) left
    → Leaves mixes (after_call kind at count false bytes file) left
done_fails mixes zero at n count ok bytes file left reaches may = may
done_fails mixes (suc zero) at n count ok bytes file left reaches may = may
done_fails mixes (suc (suc zero)) at n count ok bytes file left reaches may = may
done_fails mixes (suc (suc (suc zero))) at n count true bytes file left reaches may =
    was_reached mixes file.seen file.synced file.steps (wrote at (length bytes) bytes) (overlaid file.seen at (take n bytes)) left reaches
    (takes_write mixes at n bytes file.seen) may
done_fails mixes (suc (suc (suc zero))) at n count false bytes file left reaches may = may
done_fails mixes (suc (suc (suc (suc zero)))) at n count true bytes file left reaches may =
    was_reached mixes file.seen file.synced file.steps (resized at) (padded file.seen at) left reaches (Cut-padded file.seen at) may
done_fails mixes (suc (suc (suc (suc zero)))) at n count false bytes file left reaches may = may
done_fails mixes (suc (suc (suc (suc (suc zero))))) at n count ok bytes file left reaches may =
    was_synced mixes file.is_usable ok file.seen file.synced file.steps left may
done_fails mixes (suc (suc (suc (suc (suc (suc more)))))) at n count ok bytes file left reaches may = may

-- ---- all that fail

pub stops_are_exits : StopsAreExits
stops_are_exits mixes start before call count [] failed left (inl may) =
    one_fails mixes call.0 call.1 count call.4 (replay start before) left may
stops_are_exits mixes start before call count [] failed left (inr may) =
    done_fails mixes call.0 call.1 call.2 count call.3 call.4 (replay start before) left (reaches_seen mixes start before) may
stops_are_exits mixes start before call count (one ∷ later) (is, failed) left may =
    let file = replay start (later ++ failing count call ∷ before) in
    subst (λ (ok : Bool). Leaves mixes (after_call one.0 one.1 one.2 ok one.4 file) left) (sym is)
    (one_fails mixes one.0 one.1 one.2 one.4 file left (stops_are_exits mixes start before call count later failed left may))
