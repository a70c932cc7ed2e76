use Rattle.std.proofs.Common.{arith}
use Rattle.rounds.specs.Setups.{setup_of}
use Rattle.hall.proofs.SettingUp.{numbers_fit}
use Rattle.hall.proofs.set_up.setup.Goals as goal

pub overflow_cast-setup : goal.overflow_cast-setup
overflow_cast-setup c =
    let fit = numbers_fit (setup_of c.args.racks c.args.boxes c.args.coordinators c.args.readers c.args.c0 c.args.cf0) _ _ c.numbers_in_range.ensures c.in_ok-unless-2.ensures in
    record { fits = omega (arith, fit.racks) }

pub overflow_cast-setup-2 : goal.overflow_cast-setup-2
overflow_cast-setup-2 c =
    let fit = numbers_fit (setup_of c.args.racks c.args.boxes c.args.coordinators c.args.readers c.args.c0 c.args.cf0) _ _ c.numbers_in_range.ensures c.in_ok-unless-2.ensures in
    record { fits = omega (arith, fit.boxes) }

pub overflow_cast-setup-3 : goal.overflow_cast-setup-3
overflow_cast-setup-3 c =
    let fit = numbers_fit (setup_of c.args.racks c.args.boxes c.args.coordinators c.args.readers c.args.c0 c.args.cf0) _ _ c.numbers_in_range.ensures c.in_ok-unless-2.ensures in
    record { fits = omega (arith, fit.coordinators) }

pub overflow_cast-setup-4 : goal.overflow_cast-setup-4
overflow_cast-setup-4 c =
    let fit = numbers_fit (setup_of c.args.racks c.args.boxes c.args.coordinators c.args.readers c.args.c0 c.args.cf0) _ _ c.numbers_in_range.ensures c.in_ok-unless-2.ensures in
    record { fits = omega (arith, fit.readers) }

pub overflow_cast-setup-5 : goal.overflow_cast-setup-5
overflow_cast-setup-5 c =
    let fit = numbers_fit (setup_of c.args.racks c.args.boxes c.args.coordinators c.args.readers c.args.c0 c.args.cf0) _ _ c.numbers_in_range.ensures c.in_ok-unless-2.ensures in
    record { fits = omega (arith, fit.c0) }

pub overflow_cast-setup-6 : goal.overflow_cast-setup-6
overflow_cast-setup-6 c =
    let fit = numbers_fit (setup_of c.args.racks c.args.boxes c.args.coordinators c.args.readers c.args.c0 c.args.cf0) _ _ c.numbers_in_range.ensures c.in_ok-unless-2.ensures in
    record { fits = omega (arith, fit.cf0) }
