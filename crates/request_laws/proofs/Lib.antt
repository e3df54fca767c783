mod BothKeys
mod DirectErrors
mod LineErrors
