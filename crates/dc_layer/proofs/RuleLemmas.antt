-- The first of the patterns that isn't built.
use Rattle.std.proofs.Common.{◌≡◌, true, false, inl, inr, refl}
use Rattle.dc_layer.specs.Patterns.{is_pattern, is_plain}
use Rattle.dc_layer.specs.Rules.{Rules, is_absent_or, IsRefusedBy}
use Rattle.dc_layer.specs.declared.pattern.PatternError.{PatternError}
use Rattle.dc_layer.specs.declared.pattern.PatternError.TheVariants.{Bad, TooLarge, OutOfMemory}

module _ (rules : Rules) where
  pub first_refused : (error : PatternError) → (error ≡ Bad → is_absent_or (is_pattern true) rules.accept_name ≡ false) → (error ≡ TooLarge → is_absent_or is_plain rules.accept_name ≡ false) → IsRefusedBy rules error
  first_refused Bad bad large = inl (bad refl)
  first_refused TooLarge bad large = inl (large refl)
  first_refused OutOfMemory bad large = tt

  pub second_refused : (error : PatternError) → is_absent_or (is_pattern true) rules.accept_name ≡ true → (error ≡ Bad → is_absent_or (is_pattern true) rules.reject_name ≡ false) → (error ≡ TooLarge → is_absent_or is_plain rules.reject_name ≡ false) → IsRefusedBy rules error
  second_refused Bad one bad large = inr (one, inl (bad refl))
  second_refused TooLarge one bad large = inr (one, inl (large refl))
  second_refused OutOfMemory one bad large = tt

  pub third_refused : (error : PatternError) → is_absent_or (is_pattern true) rules.accept_name ≡ true → is_absent_or (is_pattern true) rules.reject_name ≡ true → (error ≡ Bad → is_absent_or (is_pattern true) rules.accept_type ≡ false) → (error ≡ TooLarge → is_absent_or is_plain rules.accept_type ≡ false) → IsRefusedBy rules error
  third_refused Bad one two bad large = inr (one, inr (two, inl (bad refl)))
  third_refused TooLarge one two bad large = inr (one, inr (two, inl (large refl)))
  third_refused OutOfMemory one two bad large = tt

  pub fourth_refused : (error : PatternError) → is_absent_or (is_pattern true) rules.accept_name ≡ true → is_absent_or (is_pattern true) rules.reject_name ≡ true → is_absent_or (is_pattern true) rules.accept_type ≡ true → (error ≡ Bad → is_absent_or (is_pattern true) rules.reject_type ≡ false) → (error ≡ TooLarge → is_absent_or is_plain rules.reject_type ≡ false) → IsRefusedBy rules error
  fourth_refused Bad one two three bad large = inr (one, inr (two, inr (three, inl (bad refl))))
  fourth_refused TooLarge one two three bad large = inr (one, inr (two, inr (three, inl (large refl))))
  fourth_refused OutOfMemory one two three bad large = tt
