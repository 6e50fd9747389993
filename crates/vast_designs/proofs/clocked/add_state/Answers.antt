use Rattle.std.proofs.Common.{refl, ap}
use Rattle.vast_designs.specs.declared.clocked.Signals.{Signals}
use Rattle.vast_designs.proofs.RegistersSteps.{step6, step7, step8, step9, step10, owns-owner-in-first, owns-byte-in-first, owns-owner-in-first-next, owns-byte-in-first-next, owns-owner-in-second, owns-byte-in-second, owns-owner-in-second-next, owns-byte-in-second-next}
use Rattle.vast_designs.proofs.clocked.add_state.Goals as goal

pub add_logic-requires-clause-owner : goal.add_logic-requires-clause-owner
add_logic-requires-clause-owner c =
    let owner = ap (λ (x : Signals). x.owner) c.requires.of in
    let s6 = step6 c.args.file.now c.make_bit_vector_type.new.self c.in_ok-byte.byte c.requires.file c.in_ok-byte.ensures.built in
    owns-owner-in-first _ _ s6.1 owner

pub add_logic-requires-clause-data_type : goal.add_logic-requires-clause-data_type
add_logic-requires-clause-data_type c =
    let owner = ap (λ (x : Signals). x.owner) c.requires.of in
    let s6 = step6 c.args.file.now c.make_bit_vector_type.new.self c.in_ok-byte.byte c.requires.file c.in_ok-byte.ensures.built in
    owns-byte-in-first _ _ s6.1 s6.0

pub add_logic-requires-2-clause-owner : goal.add_logic-requires-2-clause-owner
add_logic-requires-2-clause-owner c =
    let owner = ap (λ (x : Signals). x.owner) c.requires.of in
    let s6 = step6 c.args.file.now c.make_bit_vector_type.new.self c.in_ok-byte.byte c.requires.file c.in_ok-byte.ensures.built in
    let s7 = step7 c.make_bit_vector_type.new.self c.add_logic.new.self c.args.of.now.owner c.in_ok-byte.byte c.in_ok-first.first s6.1 owner s6.0 c.in_ok-first.ensures.built in
    owns-owner-in-first-next _ _ s7.1 owner

pub add_logic-requires-2-clause-data_type : goal.add_logic-requires-2-clause-data_type
add_logic-requires-2-clause-data_type c =
    let owner = ap (λ (x : Signals). x.owner) c.requires.of in
    let s6 = step6 c.args.file.now c.make_bit_vector_type.new.self c.in_ok-byte.byte c.requires.file c.in_ok-byte.ensures.built in
    let s7 = step7 c.make_bit_vector_type.new.self c.add_logic.new.self c.args.of.now.owner c.in_ok-byte.byte c.in_ok-first.first s6.1 owner s6.0 c.in_ok-first.ensures.built in
    owns-byte-in-first-next _ _ s7.1 s6.0

pub add_logic-requires-3-clause-owner : goal.add_logic-requires-3-clause-owner
add_logic-requires-3-clause-owner c =
    let owner = ap (λ (x : Signals). x.owner) c.requires.of in
    let s6 = step6 c.args.file.now c.make_bit_vector_type.new.self c.in_ok-byte.byte c.requires.file c.in_ok-byte.ensures.built in
    let s7 = step7 c.make_bit_vector_type.new.self c.add_logic.new.self c.args.of.now.owner c.in_ok-byte.byte c.in_ok-first.first s6.1 owner s6.0 c.in_ok-first.ensures.built in
    let s8 = step8 c.add_logic.new.self c.add_logic-2.new.self c.args.of.now.owner c.in_ok-byte.byte c.in_ok-first_next.first_next s7.1 owner s6.0 c.in_ok-first_next.ensures.built in
    owns-owner-in-second _ _ s8.1 owner

pub add_logic-requires-3-clause-data_type : goal.add_logic-requires-3-clause-data_type
add_logic-requires-3-clause-data_type c =
    let owner = ap (λ (x : Signals). x.owner) c.requires.of in
    let s6 = step6 c.args.file.now c.make_bit_vector_type.new.self c.in_ok-byte.byte c.requires.file c.in_ok-byte.ensures.built in
    let s7 = step7 c.make_bit_vector_type.new.self c.add_logic.new.self c.args.of.now.owner c.in_ok-byte.byte c.in_ok-first.first s6.1 owner s6.0 c.in_ok-first.ensures.built in
    let s8 = step8 c.add_logic.new.self c.add_logic-2.new.self c.args.of.now.owner c.in_ok-byte.byte c.in_ok-first_next.first_next s7.1 owner s6.0 c.in_ok-first_next.ensures.built in
    owns-byte-in-second _ _ s8.1 s6.0

pub add_logic-requires-4-clause-owner : goal.add_logic-requires-4-clause-owner
add_logic-requires-4-clause-owner c =
    let owner = ap (λ (x : Signals). x.owner) c.requires.of in
    let s6 = step6 c.args.file.now c.make_bit_vector_type.new.self c.in_ok-byte.byte c.requires.file c.in_ok-byte.ensures.built in
    let s7 = step7 c.make_bit_vector_type.new.self c.add_logic.new.self c.args.of.now.owner c.in_ok-byte.byte c.in_ok-first.first s6.1 owner s6.0 c.in_ok-first.ensures.built in
    let s8 = step8 c.add_logic.new.self c.add_logic-2.new.self c.args.of.now.owner c.in_ok-byte.byte c.in_ok-first_next.first_next s7.1 owner s6.0 c.in_ok-first_next.ensures.built in
    let s9 = step9 c.add_logic-2.new.self c.add_logic-3.new.self c.args.of.now.owner c.in_ok-byte.byte c.in_ok-second.second s8.1 owner s6.0 c.in_ok-second.ensures.built in
    owns-owner-in-second-next _ _ s9.1 owner

pub add_logic-requires-4-clause-data_type : goal.add_logic-requires-4-clause-data_type
add_logic-requires-4-clause-data_type c =
    let owner = ap (λ (x : Signals). x.owner) c.requires.of in
    let s6 = step6 c.args.file.now c.make_bit_vector_type.new.self c.in_ok-byte.byte c.requires.file c.in_ok-byte.ensures.built in
    let s7 = step7 c.make_bit_vector_type.new.self c.add_logic.new.self c.args.of.now.owner c.in_ok-byte.byte c.in_ok-first.first s6.1 owner s6.0 c.in_ok-first.ensures.built in
    let s8 = step8 c.add_logic.new.self c.add_logic-2.new.self c.args.of.now.owner c.in_ok-byte.byte c.in_ok-first_next.first_next s7.1 owner s6.0 c.in_ok-first_next.ensures.built in
    let s9 = step9 c.add_logic-2.new.self c.add_logic-3.new.self c.args.of.now.owner c.in_ok-byte.byte c.in_ok-second.second s8.1 owner s6.0 c.in_ok-second.ensures.built in
    owns-byte-in-second-next _ _ s9.1 s6.0

pub returns : goal.returns
returns c =
    let owner = ap (λ (x : Signals). x.owner) c.requires.of in
    let s6 = step6 c.args.file.now c.make_bit_vector_type.new.self c.in_ok-byte.byte c.requires.file c.in_ok-byte.ensures.built in
    let s7 = step7 c.make_bit_vector_type.new.self c.add_logic.new.self c.args.of.now.owner c.in_ok-byte.byte c.in_ok-first.first s6.1 owner s6.0 c.in_ok-first.ensures.built in
    let s8 = step8 c.add_logic.new.self c.add_logic-2.new.self c.args.of.now.owner c.in_ok-byte.byte c.in_ok-first_next.first_next s7.1 owner s6.0 c.in_ok-first_next.ensures.built in
    let s9 = step9 c.add_logic-2.new.self c.add_logic-3.new.self c.args.of.now.owner c.in_ok-byte.byte c.in_ok-second.second s8.1 owner s6.0 c.in_ok-second.ensures.built in
    let s10 = step10 c.add_logic-3.new.self c.add_logic-4.new.self c.args.of.now.owner c.in_ok-byte.byte c.in_ok-second_next.second_next s9.1 owner s6.0 c.in_ok-second_next.ensures.built in
    (rw (s7.0, s8.0, s9.0, s10.0) refl, s10.1)
