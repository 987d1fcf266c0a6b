use Rattle.std.proofs.Common.{◌≡◌, ℕ, ◌+◌, ◌*◌, ◌%◌, ◌<◌, ◌^◌, List, [], ◌∷◌, arith, ap, ◌∙◌}
use Rattle.std.proofs.Math.Nat.{mod-add-mod}
use Rattle.std.specs.Prelude.{fold}
use Rattle.std.specs.Int.{w32, cast_signed}
use Rattle.std.specs.Int.RustNames.{unsigned_abs}
use Rattle.yard_model.specs.Shard.{java_hash, absolute}

-- a step that wraps twice
pub wrapped_step : (h b : ℕ) → (h * 31 % 2 ^ 32 + b) % 2 ^ 32 ≡ (31 * h + b) % 4294967296
wrapped_step h b = mod-add-mod (h * 31) 4294967296 b ∙ ap (λ n. (n + b) % 4294967296) (omega arith)

hash_fits : (h : ℕ) (bytes : List ℕ) → h < 4294967296 → fold (λ h b. (31 * h + b) % 4294967296) h bytes < 4294967296
hash_fits h [] fits = fits
hash_fits h (b ∷ bs) fits = hash_fits ((31 * h + b) % 4294967296) bs (omega arith)

absolute_of : (h : ℕ) → h < 4294967296 → unsigned_abs (cast_signed w32 h) ≡ absolute h
absolute_of h fits = grind (arith)

-- the absolute value of a hash that is read as signed
pub absolute_of_hash : (name : List ℕ) → unsigned_abs (cast_signed w32 (java_hash name)) ≡ absolute (java_hash name)
absolute_of_hash name = absolute_of (java_hash name) (hash_fits 0 name (omega arith))
