pub mod BoxSteps
