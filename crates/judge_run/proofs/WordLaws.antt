-- The words of an answer, as they are put together.
use Rattle.std.proofs.Common.{◌≡◌, ◌++◌, sym, ◌∙◌, append_assoc}
use Rattle.yard_model.specs.Text.{Bytes}

-- two words, and a sign between
pub two : (a b sign c : Bytes) → a ++ (b ++ (sign ++ c)) ≡ ((a ++ b) ++ sign) ++ c
two a b sign c = sym (append_assoc (a ++ b) sign c ∙ append_assoc a b (sign ++ c))

-- three
pub three : (a b sign c last d : Bytes) → a ++ (b ++ (sign ++ (c ++ (last ++ d)))) ≡ ((((a ++ b) ++ sign) ++ c) ++ last) ++ d
three a b sign c last d = two a b sign (c ++ (last ++ d)) ∙ two ((a ++ b) ++ sign) c last d
