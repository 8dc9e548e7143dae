mod DigitSteps
mod TextItems
