-- A list that passes leaves nothing accepted.
use Rattle.std.proofs.Common.{◌≡◌, ℕ, is_some, Some, None, Ok, Err, Option, Result, refl, ap, arith}
use mathlib.Core.List as list
use Rattle.std.specs.Option.{option_map}
use Rattle.inspector.specs.declared.answers.Inspection.{Inspection}
use Rattle.inspector.specs.declared.answers.Inspection.TheVariants.{Passed}
use Rattle.inspector.specs.declared.answers.Refused.{Refused}
use Rattle.inspector.specs.Inspected.{inspected}
use Rattle.inspector.proofs.Account.{account}
use Rattle.kind_shapes.specs.declared.JointConfig.{JointConfig}
use Rattle.kind_shapes.specs.Acceptance.{PatternAcceptance, JointAcceptance, NeverMatches, NeverTogether}
use Rattle.kind_shapes.specs.Shapes.{pattern_shape, joint_shape}
use Rattle.kind_shapes.proofs.JointAccepting.{joint_acceptance, never_together}
use Rattle.kind_shapes.proofs.JointLaws.{joint_laws}
use Rattle.kind_shapes.proofs.PatternAccepting.{pattern_acceptance, never_matches}
use Rattle.kind_shapes.proofs.PatternLaws.{pattern_laws}
use Rattle.models.specs.Formed as model
use Rattle.models.specs.Machine.{Machine}
use Rattle.models.specs.Questions as model-questions
use Rattle.models.proofs.Forming as models
use Rattle.patterns.specs.declared.fault.Fault.{Fault}
use Rattle.patterns.specs.Automaton.{Automaton}
use Rattle.patterns.specs.Formed as pattern
use Rattle.patterns.specs.Questions as pattern-questions
use Rattle.patterns.proofs.Forming as patterns
use Rattle.models.specs.declared.fault.ModelFault.{ModelFault}
use Rattle.joint_kinds.specs.declared.fault.JointFault.{JointFault}
use Rattle.joint_kinds.specs.declared.fault.JointFault.TheVariants.{Pattern}
use Rattle.inspections.specs.Inspections.{answered, pattern_inspected, joint_inspected}
use Rattle.joint_kinds.specs.Questions.{fault_of, joint_judged}

-- where the answer is that the list passed, the tables have no fault, and the inspector passed it
passed : (o : Option JointFault) (r : Result Inspection Refused) → answered o r ≡ Ok Passed → (o ≡ None) × (r ≡ Ok Passed)
passed (Some f) r e = let z : ◌≡◌ {A = ℕ} 0 1 = cc in absurd (omega arith)
passed None (Ok i) e = let q : i ≡ Passed = cc in (refl, ap Ok q)
passed None (Err x) e = let z : ◌≡◌ {A = ℕ} 0 1 = cc in absurd (omega arith)

no_fault : (o : Option Fault) → option_map Pattern o ≡ None → o ≡ None
no_fault None e = refl
no_fault (Some f) e = let z : ◌≡◌ {A = ℕ} 0 1 = cc in absurd (omega arith)

neither : (o : Option Fault) (g : Option ModelFault) → fault_of o g ≡ None → (o ≡ None) × (g ≡ None)
neither None None e = (refl, refl)
neither None (Some g) e = let z : ◌≡◌ {A = ℕ} 0 1 = cc in absurd (omega arith)
neither (Some f) g e = let z : ◌≡◌ {A = ℕ} 0 1 = cc in absurd (omega arith)

module _ (A : Automaton) where
  pattern_formed : pattern-questions.judged A ≡ None → pattern.Formed A
  pattern_formed e = patterns.formed A (ap is_some e)

  pub accepts : pattern-questions.judged A ≡ None → PatternAcceptance A
  accepts e = pattern_acceptance A (pattern_formed e)

  pub passed_never : (xs : list.List ℕ) → pattern_inspected A xs ≡ Ok Passed → NeverMatches A
  passed_never xs e =
      let p = passed (option_map Pattern (pattern-questions.judged A)) (inspected (pattern_shape A) xs) e in
      let F = pattern_formed (no_fault (pattern-questions.judged A) p.0) in
      never_matches A F ((account (pattern_shape A) (pattern_laws A F) xs (inspected (pattern_shape A) xs) refl).ok p.1)

  module _ (M : Machine) where
    both_formed : joint_judged A M ≡ None → pattern.Formed A × model.Formed A.signals M
    both_formed e =
        let p = neither (pattern-questions.judged A) (model-questions.judged A.signals M) e in
        (pattern_formed p.0, models.formed A.signals M (ap is_some p.1))

    pub accepts_jointly : joint_judged A M ≡ None → JointAcceptance A M
    accepts_jointly e = let F = both_formed e in joint_acceptance A M F.0 F.1

    pub passed_never_together : (xs : list.List JointConfig) → joint_inspected A M xs ≡ Ok Passed → NeverTogether A M
    passed_never_together xs e =
        let p = passed (joint_judged A M) (inspected (joint_shape A M) xs) e in
        let F = both_formed p.0 in
        never_together A M F.0 F.1
        ((account (joint_shape A M) (joint_laws A M F.0 F.1) xs (inspected (joint_shape A M) xs) refl).ok p.1)
